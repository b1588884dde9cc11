-- What the expressions of a list break is what one of them breaks by itself, so lists of expressions may be looked at one behind another.
use Rattle.std.proofs.Common.{◌≡◌, inl, inr, List, [], ◌∷◌, ◌++◌, map, IsTrue}
use Rattle.std.specs.Prelude.{◌⊎◌, Any}
use Rattle.pv_place.specs.declared.place.Place.{Place}
use Rattle.pv_tree.specs.Tree.{OperandTree}
use Rattle.pv_tree.specs.Scopes.{Scope}
use Rattle.pv_tree.specs.Things.{no_name, place_of_operand}
use Rattle.pv_tree.specs.Parts.{Part, Path, operands_read, reads_of_parts, path_of, thing_of_path, indexes_of}
use Rattle.pv_tree.specs.Rules.{Rule, BreaksInParts}
use Rattle.pv_tree.specs.Rules as tree
use Rattle.pv_tree.specs.Rules.Misfits.{Misapplies, MisusesPath}
use Rattle.pv_tree.specs.Rules.OutOfRange.{IsPartOutside}
use Rattle.pv_tree.specs.Rules.Arrays.{IsBeyond}
use Rattle.pv_tree.specs.Rules.Callable.{ReadsVoid}
use Rattle.pv_tree.specs.Rules.Addresses.{is_wrong_operand}
use Rattle.pv_rules_expr.specs.Members.{HasSome}
use Rattle.pv_rules_expr.proofs.ForCallers.{any_has, has_any}
use Rattle.pv_rules_expr.proofs.ForCallers.{appended_to, appended_from, reads_to, reads_from, mapped_to, mapped_from}

-- what one of them breaks
abbrev pub InPart : Rule → Scope → Place → Part → Type 0
InPart tree.missing_name scope at p = HasSome (λ o. thing_of_path scope (path_of scope o) ≡ no_name at) (operands_read p.expr)
InPart tree.misfit scope at p = Misapplies scope at p.expr ⊎ HasSome (λ o. MisusesPath scope at (path_of scope o)) (operands_read p.expr)
InPart tree.out_of_range scope at p = IsPartOutside at p
InPart tree.beyond_bounds scope at p = HasSome (λ o. Any (IsBeyond scope at) (indexes_of scope (path_of scope o))) (operands_read p.expr)
InPart tree.not_callable scope at p = HasSome (ReadsVoid scope at) (operands_read p.expr)
InPart tree.wrong_address scope at p = HasSome (λ o. (place_of_operand o ≡ at) × IsTrue (is_wrong_operand o)) (operands_read p.expr)
InPart rule scope at p = ⊥

paths_from : (scope : Scope) (Q : Path → Type 0) (ps : List Part) → Any Q (map (path_of scope) (reads_of_parts ps))
    → HasSome (λ p. HasSome (λ o. Q (path_of scope o)) (operands_read p.expr)) ps
paths_from scope Q ps a =
    reads_from (λ o. Q (path_of scope o)) ps (mapped_from Q (path_of scope) (reads_of_parts ps) (any_has Q (map (path_of scope) (reads_of_parts ps)) a))

paths_to : (scope : Scope) (Q : Path → Type 0) (ps : List Part) → HasSome (λ p. HasSome (λ o. Q (path_of scope o)) (operands_read p.expr)) ps
    → Any Q (map (path_of scope) (reads_of_parts ps))
paths_to scope Q ps h =
    has_any Q (map (path_of scope) (reads_of_parts ps)) (mapped_to Q (path_of scope) (reads_of_parts ps) (reads_to (λ o. Q (path_of scope o)) ps h))

firsts : {X : Type 0} (P Q : X → Type 0) (xs : List X) → HasSome P xs → HasSome (λ x. P x ⊎ Q x) xs
firsts P Q [] h = h
firsts P Q (x ∷ xs) (inl p) = inl (inl p)
firsts P Q (x ∷ xs) (inr h) = inr (firsts P Q xs h)

seconds : {X : Type 0} (P Q : X → Type 0) (xs : List X) → HasSome Q xs → HasSome (λ x. P x ⊎ Q x) xs
seconds P Q [] h = h
seconds P Q (x ∷ xs) (inl q) = inl (inr q)
seconds P Q (x ∷ xs) (inr h) = inr (seconds P Q xs h)

parted : {X : Type 0} (P Q : X → Type 0) (xs : List X) → HasSome (λ x. P x ⊎ Q x) xs → HasSome P xs ⊎ HasSome Q xs
parted P Q [] h = inl h
parted P Q (x ∷ xs) (inl e) = elim e [ inl p ↦ inl (inl p) | inr q ↦ inr (inl q) ]
parted P Q (x ∷ xs) (inr h) = elim (parted P Q xs h) [ inl p ↦ inl (inr p) | inr q ↦ inr (inr q) ]

never : {X : Type 0} (xs : List X) → HasSome (λ x. ⊥) xs → ⊥
never [] h = h
never (x ∷ xs) (inl b) = b
never (x ∷ xs) (inr h) = never xs h

module _ (scope : Scope) (at : Place) where
  abbrev Name : Path → Type 0
  Name p = thing_of_path scope p ≡ no_name at

  abbrev Beyonds : Path → Type 0
  Beyonds p = Any (IsBeyond scope at) (indexes_of scope p)

  abbrev Address : OperandTree → Type 0
  Address o = (place_of_operand o ≡ at) × IsTrue (is_wrong_operand o)

  pub in_one : (rule : Rule) (ps : List Part) → BreaksInParts rule scope ps at → HasSome (InPart rule scope at) ps
  in_one tree.missing_name ps b = paths_from scope Name ps b
  in_one tree.misfit ps b = elim b [
    | inl m ↦ firsts (λ p. Misapplies scope at p.expr) (λ p. HasSome (λ o. MisusesPath scope at (path_of scope o)) (operands_read p.expr)) ps
        (any_has (λ p. Misapplies scope at p.expr) ps m)
    | inr m ↦ seconds (λ p. Misapplies scope at p.expr) (λ p. HasSome (λ o. MisusesPath scope at (path_of scope o)) (operands_read p.expr)) ps
        (paths_from scope (MisusesPath scope at) ps m)
  ]
  in_one tree.out_of_range ps b = any_has (IsPartOutside at) ps b
  in_one tree.beyond_bounds ps b = paths_from scope Beyonds ps b
  in_one tree.not_callable ps b = reads_from (ReadsVoid scope at) ps (any_has (ReadsVoid scope at) (reads_of_parts ps) b)
  in_one tree.wrong_address ps b = reads_from Address ps (any_has Address (reads_of_parts ps) b)
  in_one rule ps b = absurd b

  pub of_one : (rule : Rule) (ps : List Part) → HasSome (InPart rule scope at) ps → BreaksInParts rule scope ps at
  of_one tree.missing_name ps h = paths_to scope Name ps h
  of_one tree.misfit ps h =
      elim (parted (λ p. Misapplies scope at p.expr) (λ p. HasSome (λ o. MisusesPath scope at (path_of scope o)) (operands_read p.expr)) ps h) [
        | inl m ↦ inl (has_any (λ p. Misapplies scope at p.expr) ps m)
        | inr m ↦ inr (paths_to scope (MisusesPath scope at) ps m)
      ]
  of_one tree.out_of_range ps h = has_any (IsPartOutside at) ps h
  of_one tree.beyond_bounds ps h = paths_to scope Beyonds ps h
  of_one tree.not_callable ps h = has_any (ReadsVoid scope at) (reads_of_parts ps) (reads_to (ReadsVoid scope at) ps h)
  of_one tree.wrong_address ps h = has_any Address (reads_of_parts ps) (reads_to Address ps h)
  of_one rule ps h = never ps h

  -- one list behind another
  pub parts_apart : (rule : Rule) (ps qs : List Part) → BreaksInParts rule scope (ps ++ qs) at
      → BreaksInParts rule scope ps at ⊎ BreaksInParts rule scope qs at
  parts_apart rule ps qs b =
      elim (appended_from (InPart rule scope at) ps qs (in_one rule (ps ++ qs) b)) [ inl h ↦ inl (of_one rule ps h) | inr h ↦ inr (of_one rule qs h) ]

  pub parts_joined : (rule : Rule) (ps qs : List Part) → BreaksInParts rule scope ps at ⊎ BreaksInParts rule scope qs at
      → BreaksInParts rule scope (ps ++ qs) at
  parts_joined rule ps qs e =
      of_one rule (ps ++ qs) (appended_to (InPart rule scope at) ps qs (elim e [ inl b ↦ inl (in_one rule ps b) | inr b ↦ inr (in_one rule qs b) ]))
