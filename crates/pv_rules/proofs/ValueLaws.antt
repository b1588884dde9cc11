-- Where what is called can't be, and where the value of a function that has none is read: in a body and in a project.
use Rattle.std.proofs.Common.{◌≡◌, refl, sym, ap, subst, ◌∙◌, inl, inr, List, [], ◌∷◌, ◌++◌, Option, Some, None, Bool, true, false, is_some, true≢false, IsTrue}
use Rattle.std.specs.Prelude.{◌⊎◌, Any, flat_map, filter_map, option_to_list}
use Rattle.std.proofs.lemmas.List.{append-nil}
use Rattle.std.proofs.lemmas.List.Elements.{filter_map-append}
use Rattle.pv_place.specs.declared.place.Place.{Place}
use Rattle.pv_tree.specs.Tree.{OperandTree, operand, StmtTrees, InstrTree, StartTree, BodyTree, scl, stl, starts, BlockTree}
use Rattle.pv_tree.specs.Scopes.{ProjectTree, Scope}
use Rattle.pv_tree.specs.InstructionGroups.{operand_of_instruction}
use Rattle.pv_tree.specs.Callees.{Callee, runs, not_declared, not_callable, unknown, CallSite, callee_of}
use Rattle.pv_tree.specs.Parts.{Part, spots_of_body, spots_of_stmts, instructions_of, starts_of, calls_of, calls_of_stmt, calls_of_instruction, parts_of_stmt, parts_of_instruction, parts_of_operand, reads_of_parts}
use Rattle.pv_tree.specs.Things.{thing_of, root_place}
use Rattle.pv_tree.specs.Rules.Callable.{read_operand, is_void_thing, ReadsVoid, CallsWrong, IsNotCallable}
use Rattle.pv_rules_expr.specs.Members.{Has, HasSome}
use Rattle.pv_rules_expr.specs.Nearest.{is_before, nearer_of, IsNearest}
use Rattle.pv_rules_expr.specs.NearestIn.{nearest_in}
use Rattle.pv_rules_expr.specs.Places.{place_where}
use Rattle.pv_rules_expr.proofs.ForCallers.{any_has, has_any, has_behind, has_either, has_front, itself, nearer_none, nearest_same, in_any, in_all_any}
use Rattle.pv_rules_code.specs.InCode.{code_parts, VoidsIn}
use Rattle.pv_rules_code.specs.Sites.{in_block}
use Rattle.pv_rules.specs.Statements.{all_of}
use Rattle.pv_tree.specs.Operands.{operands_within}
use Rattle.pv_rules.specs.Reads.{reads_of_call, reads_of_stmt, reads_of_instruction, reads_of_starts}
use Rattle.pv_rules.specs.Outputs.{is_written}
use Rattle.pv_rules.specs.Values.{refused_at, call_at, unless, value_at, values_in, both_in, body_place, block_place, project_place, reads_of_statements, AreNoVoids}
use Rattle.pv_rules.proofs.StatementLaws.{seen_of}
use Rattle.pv_rules.proofs.ReadLaws.{flat_seen, instrs_read, list_read, starts_read}
use Rattle.pv_rules.proofs.OutputLaws.{ReadsValue, value_nearest}

-- ---- what can't be called

-- the place of a name that can't be called, and this one where there is none
abbrev place_or : Place → Callee → Place
place_or other (runs b) = other
place_or other (not_declared place) = other
place_or other (not_callable place) = place
place_or other unknown = other

not_refused : (c : Callee) (at : Place) → refused_at c ≡ None → c ≡ not_callable at → ⊥
not_refused c at none e = true≢false (sym (ap (λ x. is_some (refused_at x)) e) ∙ ap is_some none)

refused_nearest : (c : Callee) → IsNearest (λ at. c ≡ not_callable at) (refused_at c)
refused_nearest (runs b) = λ at. not_refused (runs b) at refl
refused_nearest (not_declared place) = λ at. not_refused (not_declared place) at refl
refused_nearest (not_callable place) =
    (refl, λ at e. subst (λ c. IsTrue (is_before place (place_or place c))) e (itself place))
refused_nearest unknown = λ at. not_refused unknown at refl

-- ---- in calls and reads

abbrev Wrong : Scope → List CallSite → List OperandTree → Place → Type 0
Wrong scope calls reads at =
    Any (λ s. callee_of scope s ≡ not_callable at) calls ⊎ Any (λ o. ReadsValue scope o at) reads

both_nearest : (scope : Scope) (calls : List CallSite) → calls_of scope.block ≡ calls → (reads : List OperandTree)
    → IsNearest (Wrong scope calls reads) (both_in scope calls reads None)
both_nearest scope calls all reads =
    in_all_any (λ o at. ReadsValue scope o at) (value_at scope calls) (value_nearest scope calls all)
    (λ at. Any (λ s. callee_of scope s ≡ not_callable at) calls) reads (nearest_in (call_at scope) calls None)
    (in_any (λ s at. callee_of scope s ≡ not_callable at) (call_at scope) (λ s. refused_nearest (callee_of scope s)) calls)

-- ---- in a body

abbrev calls_within : BodyTree → List CallSite
calls_within body = flat_map (λ s. calls_of_stmt s.stmt) (spots_of_body body) ++ flat_map calls_of_instruction (instructions_of body)

abbrev parts_within : Scope → BodyTree → List Part
parts_within scope body =
    flat_map (λ s. parts_of_stmt scope s.stmt) (spots_of_body body) ++ flat_map (parts_of_instruction scope) (instructions_of body)
    ++ flat_map (λ v. parts_of_operand scope v.0) (starts_of body)

abbrev reads_within : Scope → BodyTree → List OperandTree
reads_within scope body = reads_of_parts (parts_within scope body) ++ filter_map read_operand (instructions_of body)

calls_in_list : (list : StmtTrees) → calls_within (scl list) ≡ flat_map calls_of_stmt (all_of list)
calls_in_list list =
    append-nil (flat_map (λ s. calls_of_stmt s.stmt) (spots_of_stmts [] list)) ∙ flat_seen calls_of_stmt (spots_of_stmts [] list)
    ∙ ap (flat_map calls_of_stmt) (seen_of [] list)

reads_in_list : (scope : Scope) (list : StmtTrees) → reads_within scope (scl list) ≡ flat_map reads_of_stmt (all_of list)
reads_in_list scope list =
    let ps = flat_map (λ s. parts_of_stmt scope s.stmt) (spots_of_stmts [] list) in
    append-nil (reads_of_parts (ps ++ [] ++ [])) ∙ ap reads_of_parts (append-nil (ps ++ []) ∙ append-nil ps) ∙ list_read scope list

reads_in_starts : (scope : Scope) (list : List StartTree) → reads_within scope (starts list) ≡ reads_of_starts list
reads_in_starts scope list =
    append-nil (reads_of_parts (flat_map (λ v. parts_of_operand scope v.0) list)) ∙ starts_read scope list

-- what an instruction reads by itself stands behind what all read in their expressions, or among it
filter_seen : {X Y : Type 0} (g : X → Option Y) (x : X) (xs : List X) → filter_map g (x ∷ xs) ≡ option_to_list (g x) ++ filter_map g xs
filter_seen {Y = Y} g x xs = filter_map-append g (x ∷ []) xs ∙ ap (λ l. l ++ filter_map g xs) (one (g x))
  where
    one : (o : Option Y) → filter_map (λ (b : Option Y). b) (o ∷ []) ≡ option_to_list o
    one None = refl
    one (Some y) = refl

woven : {X Y : Type 0} (Q : Y → Type 0) (f : X → List Y) (g : X → Option Y) (xs : List X)
    → HasSome Q (flat_map f xs) ⊎ HasSome Q (filter_map g xs) → HasSome Q (flat_map (λ x. f x ++ option_to_list (g x)) xs)
woven Q f g [] (inl h) = h
woven Q f g [] (inr h) = h
woven Q f g (x ∷ xs) e =
    let rest = flat_map (λ x. f x ++ option_to_list (g x)) xs in
    elim e [
      | inl h ↦ elim (has_either Q (f x) (flat_map f xs) h) [
        | inl k ↦ has_front Q (f x ++ option_to_list (g x)) rest (has_front Q (f x) (option_to_list (g x)) k)
        | inr k ↦ has_behind Q (f x ++ option_to_list (g x)) rest (woven Q f g xs (inl k))
      ]
      | inr h ↦ elim (has_either Q (option_to_list (g x)) (filter_map g xs) (subst (HasSome Q) (filter_seen g x xs) h)) [
        | inl k ↦ has_front Q (f x ++ option_to_list (g x)) rest (has_behind Q (f x) (option_to_list (g x)) k)
        | inr k ↦ has_behind Q (f x ++ option_to_list (g x)) rest (woven Q f g xs (inr k))
      ]
    ]

unwoven : {X Y : Type 0} (Q : Y → Type 0) (f : X → List Y) (g : X → Option Y) (xs : List X)
    → HasSome Q (flat_map (λ x. f x ++ option_to_list (g x)) xs) → HasSome Q (flat_map f xs) ⊎ HasSome Q (filter_map g xs)
unwoven Q f g [] h = inl h
unwoven Q f g (x ∷ xs) h =
    elim (has_either Q (f x ++ option_to_list (g x)) (flat_map (λ x. f x ++ option_to_list (g x)) xs) h) [
      | inl k ↦ elim (has_either Q (f x) (option_to_list (g x)) k) [
        | inl m ↦ inl (has_front Q (f x) (flat_map f xs) m)
        | inr m ↦ inr (subst (HasSome Q) (sym (filter_seen g x xs)) (has_front Q (option_to_list (g x)) (filter_map g xs) m))
      ]
      | inr k ↦ elim (unwoven Q f g xs k) [
        | inl m ↦ inl (has_behind Q (f x) (flat_map f xs) m)
        | inr m ↦ inr (subst (HasSome Q) (sym (filter_seen g x xs)) (has_behind Q (option_to_list (g x)) (filter_map g xs) m))
      ]
    ]

abbrev in_expressions : InstrTree → List OperandTree
in_expressions i = flat_map operands_within (option_to_list (operand_of_instruction i)) ++ flat_map reads_of_call (option_to_list i.call)

reads_in_instrs : (scope : Scope) (list : List InstrTree)
    → reads_within scope (stl list) ≡ flat_map in_expressions list ++ filter_map read_operand list
reads_in_instrs scope list =
    ap (λ l. l ++ filter_map read_operand list)
    (ap reads_of_parts (append-nil (flat_map (parts_of_instruction scope) list)) ∙ instrs_read scope list)

same_both : (scope : Scope) (calls ms : List CallSite) (reads ns : List OperandTree) (o : Option Place) → calls ≡ ms → reads ≡ ns
    → IsNearest (Wrong scope ms ns) o → IsNearest (Wrong scope calls reads) o
same_both scope calls ms reads ns o e f h =
    subst (λ l. IsNearest (Wrong scope l reads) o) (sym e) (subst (λ l. IsNearest (Wrong scope ms l) o) (sym f) h)

-- the same reads in another order
other_order : (scope : Scope) (calls : List CallSite) (list : List InstrTree) (o : Option Place)
    → IsNearest (Wrong scope calls (flat_map reads_of_instruction list)) o
    → IsNearest (Wrong scope calls (flat_map in_expressions list ++ filter_map read_operand list)) o
other_order scope calls list o h =
    nearest_same (Wrong scope calls (flat_map reads_of_instruction list)) (Wrong scope calls (flat_map in_expressions list ++ filter_map read_operand list)) o
    (λ at e. elim e [
      | inl k ↦ inl k
      | inr k ↦ inr (has_any (λ o. ReadsValue scope o at) (flat_map in_expressions list ++ filter_map read_operand list)
          (elim (unwoven (λ o. ReadsValue scope o at) in_expressions read_operand list (any_has (λ o. ReadsValue scope o at) (flat_map reads_of_instruction list) k)) [
            | inl m ↦ has_front (λ o. ReadsValue scope o at) (flat_map in_expressions list) (filter_map read_operand list) m
            | inr m ↦ has_behind (λ o. ReadsValue scope o at) (flat_map in_expressions list) (filter_map read_operand list) m
          ]))
    ])
    (λ at e. elim e [
      | inl k ↦ inl k
      | inr k ↦ inr (has_any (λ o. ReadsValue scope o at) (flat_map reads_of_instruction list)
          (woven (λ o. ReadsValue scope o at) in_expressions read_operand list
          (has_either (λ o. ReadsValue scope o at) (flat_map in_expressions list) (filter_map read_operand list)
          (any_has (λ o. ReadsValue scope o at) (flat_map in_expressions list ++ filter_map read_operand list) k))))
    ])
    h

module _ (project : ProjectTree) (b : BlockTree) where
  abbrev here : Scope
  here = record { project = project; block = b }

  block_nearest : IsNearest (λ at. CallsWrong project at b) (block_place project b)
  block_nearest = lead b.body refl
    where
      lead : (body : BodyTree) → b.body ≡ body → IsNearest (λ at. CallsWrong project at b) (body_place here body None)
      lead (scl list) is =
          let calls : calls_of b ≡ flat_map calls_of_stmt (all_of list) = ap calls_within is ∙ calls_in_list list in
          same_both here (calls_of b) (flat_map calls_of_stmt (all_of list)) (reads_within here b.body) (flat_map reads_of_stmt (all_of list)) _ calls
          (ap (reads_within here) is ∙ reads_in_list here list)
          (both_nearest here (flat_map calls_of_stmt (all_of list)) calls (flat_map reads_of_stmt (all_of list)))
      lead (stl list) is =
          let calls : calls_of b ≡ flat_map calls_of_instruction list = ap calls_within is in
          same_both here (calls_of b) (flat_map calls_of_instruction list) (reads_within here b.body)
          (flat_map in_expressions list ++ filter_map read_operand list) _ calls
          (ap (reads_within here) is ∙ reads_in_instrs here list)
          (other_order here (flat_map calls_of_instruction list) list _
          (both_nearest here (flat_map calls_of_instruction list) calls (flat_map reads_of_instruction list)))
      lead (starts list) is =
          let calls : calls_of b ≡ [] = ap calls_within is in
          same_both here (calls_of b) [] (reads_within here b.body) (reads_of_starts list) _ calls
          (ap (reads_within here) is ∙ reads_in_starts here list)
          (both_nearest here [] calls (reads_of_starts list))

-- ---- in a project

pub callable_nearest : (project : ProjectTree) (o : Option Place) → o ≡ project_place project → IsNearest (IsNotCallable project) o
callable_nearest project o is =
    subst (IsNearest (IsNotCallable project)) (sym is)
    (in_any (λ b at. CallsWrong project at b) (block_place project) (λ b. block_nearest project b) project.blocks)

-- ---- where no name of a function without a value is read

never_void : (out void : Bool) (place : Place) → (IsTrue void → ⊥) → unless out (place_where void place) ≡ None
never_void true void place never = refl
never_void false true place never = absurd (never refl)
never_void false false place never = refl

value_none : (scope : Scope) (calls : List CallSite) (o : OperandTree) → ((at : Place) → ReadsVoid scope at o → ⊥) → value_at scope calls o ≡ None
value_none scope calls (operand root more place) never =
    never_void (is_written scope calls (operand root more place)) (is_void_thing (thing_of scope (operand root more place))) (root_place root place)
    (λ void. never (root_place root place) (refl, void))

-- no value is read that isn't there
pub no_values : (scope : Scope) (calls : List CallSite) (reads : List OperandTree) (n : Option Place) → AreNoVoids scope reads
    → n ≡ values_in scope calls reads n
no_values scope calls [] n never = refl
no_values scope calls (o ∷ os) n never =
    no_values scope calls os n (λ at h. never at (inr h))
    ∙ ap (nearest_in (value_at scope calls) os)
    (sym (ap (nearer_of n) (value_none scope calls o (λ at v. never at (inl v))) ∙ nearer_none n))

-- the operands that a block's statements read are among those of its expressions
reads_of_body : (scope : Scope) (Q : OperandTree → Type 0) (body : BodyTree) → HasSome Q (reads_of_statements body)
    → HasSome Q (reads_of_parts (flat_map (λ s. parts_of_stmt scope s.stmt) (spots_of_body body)
    ++ flat_map (parts_of_instruction scope) (instructions_of body)))
reads_of_body scope Q (scl list) h =
    subst (HasSome Q) (sym (ap reads_of_parts (append-nil (flat_map (λ s. parts_of_stmt scope s.stmt) (spots_of_stmts [] list)))
    ∙ list_read scope list)) h
reads_of_body scope Q (stl list) h = absurd h
reads_of_body scope Q (starts list) h = absurd h

none_at_all : (A : Place → Type 0) (o : Option Place) → IsNearest A o → is_some o ≡ false → (at : Place) → A at → ⊥
none_at_all A None none e = none
none_at_all A (Some a) none e = absurd (true≢false e)

pub no_voids : (project : ProjectTree) (o : Option Place) → IsNearest (λ at. Any (VoidsIn project at) project.blocks) o → (b : BlockTree)
    → Has project.blocks b → is_some o ≡ false → AreNoVoids (in_block project b) (reads_of_statements b.body)
no_voids project o none b has e = λ at h.
    none_at_all (λ at. Any (VoidsIn project at) project.blocks) o none e at
    (has_any (VoidsIn project at) project.blocks (has_such (VoidsIn project at) project.blocks b has
    (has_any (ReadsVoid (in_block project b) at) (reads_of_parts (code_parts project b))
    (reads_of_body (in_block project b) (ReadsVoid (in_block project b) at) b.body h))))
  where
    has_such : (P : BlockTree → Type 0) (bs : List BlockTree) (b : BlockTree) → Has bs b → P b → HasSome P bs
    has_such P [] b h p = absurd h
    has_such P (x ∷ xs) b (inl is) p = inl (subst P (sym is) p)
    has_such P (x ∷ xs) b (inr h) p = inr (has_such P xs b h p)
