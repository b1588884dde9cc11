-- The expressions, operands and paths of a block are those of its code and those of the values that it gives to its parts.
use Rattle.std.proofs.Common.{inl, inr, List, ◌++◌, map}
use Rattle.std.specs.Prelude.{◌⊎◌, Any, flat_map}
use Rattle.pv_tree.specs.Tree.{OperandTree, BlockTree}
use Rattle.pv_tree.specs.Scopes.{ProjectTree, Scope}
use Rattle.pv_tree.specs.Parts.{Part, Path, spots_of_body, instructions_of, starts_of, parts_of_stmt, parts_of_instruction, parts_of_block, operands_read, reads_of_parts, assigned_operands, instruction_operands, operands_of, path_of, path_of_start, paths_of}
use Rattle.pv_rules_expr.specs.Members.{HasSome}
use Rattle.pv_rules_expr.proofs.ForCallers.{any_has, has_any, has_front, has_behind, has_either, mapped_to, mapped_from, reads_to, reads_from}
use Rattle.pv_rules_code.specs.InCode.{code_parts, code_operands}
use Rattle.pv_rules_decl.specs.StartPieces.{parts_of_starts, within}

-- a list in three, parted before the last
front_two : {X : Type 0} (P : X → Type 0) (a b c : List X) → HasSome P (a ++ b ++ c) → HasSome P (a ++ b) ⊎ HasSome P c
front_two P a b c h = has_either P (a ++ b) c h

two_front : {X : Type 0} (P : X → Type 0) (a b c : List X) → HasSome P (a ++ b) ⊎ HasSome P c → HasSome P (a ++ b ++ c)
two_front P a b c (inl h) = has_front P (a ++ b) c h
two_front P a b c (inr h) = has_behind P (a ++ b) c h

-- and parted behind the first
first_behind : {X : Type 0} (P : X → Type 0) (a b c : List X) → HasSome P (a ++ b ++ c) → HasSome P a ⊎ HasSome P (b ++ c)
first_behind P a b c h = elim (has_either P (a ++ b) c h) [
  | inl k ↦ elim (has_either P a b k) [ inl m ↦ inl m | inr m ↦ inr (has_front P b c m) ]
  | inr k ↦ inr (has_behind P b c k)
]

behind_first : {X : Type 0} (P : X → Type 0) (a b c : List X) → HasSome P a ⊎ HasSome P (b ++ c) → HasSome P (a ++ b ++ c)
behind_first P a b c (inl h) = has_front P (a ++ b) c (has_front P a b h)
behind_first P a b c (inr h) = elim (has_either P b c h) [
  | inl k ↦ has_front P (a ++ b) c (has_behind P a b k)
  | inr k ↦ has_behind P (a ++ b) c k
]

pub mapped_any : {X Y : Type 0} (Q : Y → Type 0) (f : X → Y) (xs : List X) → Any (λ x. Q (f x)) xs → Any Q (map f xs)
mapped_any Q f xs a = has_any Q (map f xs) (mapped_to Q f xs (any_has (λ x. Q (f x)) xs a))

pub any_mapped : {X Y : Type 0} (Q : Y → Type 0) (f : X → Y) (xs : List X) → Any Q (map f xs) → Any (λ x. Q (f x)) xs
any_mapped Q f xs a = has_any (λ x. Q (f x)) xs (mapped_from Q f xs (any_has Q (map f xs) a))

module _ (project : ProjectTree) (b : BlockTree) where
  abbrev scope : Scope
  scope = within project b

  abbrev stated : List Part
  stated = flat_map (λ s. parts_of_stmt scope s.stmt) (spots_of_body b.body)

  abbrev instructed : List Part
  instructed = flat_map (parts_of_instruction scope) (instructions_of b.body)

  abbrev started : List Part
  started = parts_of_starts scope (starts_of b.body)

  pub parts_apart : (P : Part → Type 0) → Any P (parts_of_block project b) → Any P (code_parts project b) ⊎ Any P started
  parts_apart P a = elim (front_two P stated instructed started (any_has P (parts_of_block project b) a)) [
    | inl h ↦ inl (has_any P (code_parts project b) h)
    | inr h ↦ inr (has_any P started h)
  ]

  pub parts_both : (P : Part → Type 0) → Any P (code_parts project b) ⊎ Any P started → Any P (parts_of_block project b)
  parts_both P e = has_any P (parts_of_block project b) (two_front P stated instructed started (elim e [
    | inl a ↦ inl (any_has P (code_parts project b) a)
    | inr a ↦ inr (any_has P started a)
  ]))

  pub reads_apart : (Q : OperandTree → Type 0) → HasSome Q (reads_of_parts (parts_of_block project b))
      → HasSome Q (reads_of_parts (code_parts project b)) ⊎ HasSome Q (reads_of_parts started)
  reads_apart Q h = elim (front_two (λ p. HasSome Q (operands_read p.expr)) stated instructed started (reads_from Q (parts_of_block project b) h)) [
    | inl k ↦ inl (reads_to Q (code_parts project b) k)
    | inr k ↦ inr (reads_to Q started k)
  ]

  pub reads_both : (Q : OperandTree → Type 0) → HasSome Q (reads_of_parts (code_parts project b)) ⊎ HasSome Q (reads_of_parts started)
      → HasSome Q (reads_of_parts (parts_of_block project b))
  reads_both Q e = reads_to Q (parts_of_block project b) (two_front (λ p. HasSome Q (operands_read p.expr)) stated instructed started (elim e [
    | inl h ↦ inl (reads_from Q (code_parts project b) h)
    | inr h ↦ inr (reads_from Q started h)
  ]))

  pub operands_apart : (Q : OperandTree → Type 0) → Any Q (operands_of project b)
      → Any Q (code_operands project b) ⊎ Any Q (reads_of_parts started)
  operands_apart Q a =
      let others = assigned_operands b ++ instruction_operands b in
      elim (first_behind Q (reads_of_parts (parts_of_block project b)) (assigned_operands b) (instruction_operands b) (any_has Q (operands_of project b) a)) [
        | inl h ↦ elim (reads_apart Q h) [
          | inl k ↦ inl (has_any Q (code_operands project b) (has_front Q (reads_of_parts (code_parts project b)) others k))
          | inr k ↦ inr (has_any Q (reads_of_parts started) k)
        ]
        | inr h ↦ inl (has_any Q (code_operands project b) (has_behind Q (reads_of_parts (code_parts project b)) others h))
      ]

  pub operands_both : (Q : OperandTree → Type 0) → Any Q (code_operands project b) ⊎ Any Q (reads_of_parts started)
      → Any Q (operands_of project b)
  operands_both Q (inl a) =
      let others = assigned_operands b ++ instruction_operands b in
      has_any Q (operands_of project b) (behind_first Q (reads_of_parts (parts_of_block project b)) (assigned_operands b) (instruction_operands b)
      (elim (has_either Q (reads_of_parts (code_parts project b)) others (any_has Q (code_operands project b) a)) [
        | inl h ↦ inl (reads_both Q (inl h))
        | inr h ↦ inr h
      ]))
  operands_both Q (inr a) =
      has_any Q (operands_of project b)
      (behind_first Q (reads_of_parts (parts_of_block project b)) (assigned_operands b) (instruction_operands b)
      (inl (reads_both Q (inr (any_has Q (reads_of_parts started) a)))))

  -- what a path breaks: in the code, on the way to a part that is given a value, or in an index there
  abbrev pub InPaths : (Path → Type 0) → Type 0
  InPaths Q = Any (λ o. Q (path_of scope o)) (code_operands project b)
      ⊎ (Any (λ v. Q (path_of_start scope v.0)) (starts_of b.body) ⊎ Any (λ o. Q (path_of scope o)) (reads_of_parts started))

  pub paths_apart : (Q : Path → Type 0) → Any Q (paths_of project b) → InPaths Q
  paths_apart Q a =
      let here = map (path_of scope) (operands_of project b) in
      let there = map (λ v. path_of_start scope v.0) (starts_of b.body) in
      elim (has_either Q here there (any_has Q (paths_of project b) a)) [
        | inl h ↦ elim (operands_apart (λ o. Q (path_of scope o)) (any_mapped Q (path_of scope) (operands_of project b) (has_any Q here h))) [
          | inl k ↦ inl k
          | inr k ↦ inr (inr k)
        ]
        | inr h ↦ inr (inl (any_mapped Q (λ v. path_of_start scope v.0) (starts_of b.body) (has_any Q there h)))
      ]

  pub paths_both : (Q : Path → Type 0) → InPaths Q → Any Q (paths_of project b)
  paths_both Q e =
      let here = map (path_of scope) (operands_of project b) in
      let there = map (λ v. path_of_start scope v.0) (starts_of b.body) in
      has_any Q (paths_of project b) (elim e [
        | inl a ↦ has_front Q here there (any_has Q here (mapped_any Q (path_of scope) (operands_of project b) (operands_both (λ o. Q (path_of scope o)) (inl a))))
        | inr r ↦ elim r [
          | inl a ↦ has_behind Q here there (any_has Q there (mapped_any Q (λ v. path_of_start scope v.0) (starts_of b.body) a))
          | inr a ↦ has_front Q here there (any_has Q here (mapped_any Q (path_of scope) (operands_of project b) (operands_both (λ o. Q (path_of scope o)) (inr a))))
        ]
      ])
