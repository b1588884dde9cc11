-- The way along an operand's steps: what is left leads to where the whole does.
use Rattle.std.proofs.Common.{◌≡◌, ℕ, ◌<◌, ◌+◌, suc, refl, sym, ap, ◌∙◌, List, [], ◌∷◌, Bool, true, false, ◌&&◌, if◌then◌else◌, map, drop, get_or, length, arith}
use Rattle.std.proofs.Math.Seq.{drop-cons}
use Rattle.pv_place.specs.declared.place.Place.{Place}
use Rattle.pv_tree.specs.Tree.{OperandTree, operand, StepTree, StepTrees, no_steps, steps}
use Rattle.pv_tree.specs.View.{steps_of, step_tree, exprs_of, expr_tree}
use Rattle.pv_tree.specs.declared.expr.Step.{Step}
use Rattle.pv_tree.specs.declared.expr.Expr.{Expr}
use Rattle.pv_tree.specs.Sorts.{broken}
use Rattle.pv_tree.specs.Scopes.{Scope}
use Rattle.pv_tree.specs.Things.{Thing, thing_at, last_behind, dated, thing_behind, thing_of, thing_of_root, root_place}
use Rattle.pv_tree.specs.Types.{sort_of, sorts_of, sort_of_operand, sort_of_thing, are_indexed, is_indexed}

-- each index of an operand breaks no rule
abbrev pub all_indexed : Scope → OperandTree → Bool
all_indexed scope (operand root more place) = are_indexed scope (root_place root place) (thing_of_root scope root place) more

pub record IsOn (scope : Scope) (o : OperandTree) (last : Place) (thing : Thing) (indexed : Bool) (rest : StepTrees) : Type 0 where
  pub thing_is : thing_behind scope last thing rest ≡ thing_of scope o
  pub indexed_is : (indexed && are_indexed scope last thing rest) ≡ all_indexed scope o

both_in : (a b c : Bool) → ((a && b) && c) ≡ (a && (b && c))
both_in true b c = refl
both_in false b c = refl

pub on_start : (scope : Scope) (o : OperandTree) (root : _) (more : StepTrees) (place : Place) → o ≡ operand root more place
    → IsOn scope o (root_place root place) (thing_of_root scope root place) true more
on_start scope o root more place is = record { thing_is = ap (thing_of scope) (sym is); indexed_is = ap (all_indexed scope) (sym is) }

pub on_step : (scope : Scope) (o : OperandTree) (last : Place) (thing : Thing) (indexed : Bool) (all : StepTrees) (s : StepTree)
    (rest : StepTrees) → all ≡ steps s rest → IsOn scope o last thing indexed all
    → IsOn scope o (last_behind last s) (thing_at scope (dated last thing) s) (indexed && is_indexed scope (dated last thing) s) rest
on_step scope o last thing indexed all s rest is h = record {
  thing_is = ap (thing_behind scope last thing) (sym is) ∙ h.thing_is;
  indexed_is =
      both_in indexed (is_indexed scope (dated last thing) s) (are_indexed scope (last_behind last s) (thing_at scope (dated last thing) s) rest)
      ∙ ap (λ r. indexed && are_indexed scope last thing r) (sym is) ∙ h.indexed_is;
}

and_true : (b : Bool) → (b && true) ≡ b
and_true true = refl
and_true false = refl

sort_parts : (scope : Scope) (o : OperandTree)
    → sort_of_operand scope o ≡ (if all_indexed scope o then sort_of_thing scope (thing_of scope o) else broken)
sort_parts scope (operand root more place) = refl

pub on_end : (scope : Scope) (o : OperandTree) (last : Place) (thing : Thing) (indexed : Bool) (rest : StepTrees) → rest ≡ no_steps
    → IsOn scope o last thing indexed rest
    → (if indexed then sort_of_thing scope (dated last thing) else broken) ≡ sort_of_operand scope o
on_end scope o last thing indexed rest is h =
    let t : dated last thing ≡ thing_of scope o = ap (thing_behind scope last thing) (sym is) ∙ h.thing_is in
    let i : indexed ≡ all_indexed scope o = sym (and_true indexed) ∙ ap (λ r. indexed && are_indexed scope last thing r) (sym is) ∙ h.indexed_is in
    ap (λ b. if b then sort_of_thing scope (dated last thing) else broken) i
    ∙ ap (λ t. if all_indexed scope o then sort_of_thing scope t else broken) t
    ∙ sym (sort_parts scope o)

-- the steps that are left
pub rest_step : (xs : List Step) (i j : ℕ) (x : Step) → i < length xs → x ≡ get_or xs i x → j ≡ i + 1
    → steps_of (map step_tree (drop i xs)) ≡ steps (step_tree x) (steps_of (map step_tree (drop j xs)))
rest_step xs i j x inside is e =
    let next : j ≡ suc i = omega (arith, e) in
    ap (λ l. steps_of (map step_tree l)) (drop-cons xs i x inside ∙ ap (λ y. y ∷ drop (suc i) xs) (sym is))
    ∙ ap (λ n. steps (step_tree x) (steps_of (map step_tree (drop n xs)))) (sym next)

-- the sorts of arguments, one by one
pub sorts_mapped : (scope : Scope) (es : List Expr) → map (λ e. sort_of scope (expr_tree e)) es ≡ sorts_of scope (exprs_of (map expr_tree es))
sorts_mapped scope [] = refl
sorts_mapped scope (e ∷ es) = ap (λ l. sort_of scope (expr_tree e) ∷ l) (sorts_mapped scope es)
