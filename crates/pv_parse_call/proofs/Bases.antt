-- The name to which the last of some steps leads.
use Rattle.std.proofs.Common.{◌≡◌, List, [], ◌∷◌, ◌++◌, map, Option, refl, ap, sym, ◌∙◌}
use Rattle.std.proofs.lemmas.List.{map-append}
use Rattle.pv_tree.specs.declared.expr.Step.{Step}
use Rattle.pv_tree.specs.Tree.{PlacedName, StepTree}
use Rattle.pv_tree.specs.View.{step_tree}
use Rattle.pv_parse.specs.CallDeeds.{field_of, base_of}

base-last : (steps : List StepTree) (x : StepTree) → base_of (steps ++ x ∷ []) ≡ field_of x
base-last [] x = refl
base-last (y ∷ []) x = refl
base-last (y ∷ z ∷ steps) x = base-last (z ∷ steps) x

-- of steps that were taken apart at the last one
pub last_step : (all front : List Step) (x : Step) (found : Option PlacedName) → all ≡ front ++ x ∷ [] → found ≡ field_of (step_tree x)
    → found ≡ base_of (map step_tree all)
last_step all front x found e f =
    f ∙ sym (base-last (map step_tree front) (step_tree x)) ∙ ap (λ (z : List StepTree). base_of z) (sym (map-append step_tree front (x ∷ [])))
    ∙ ap (λ (z : List Step). base_of (map step_tree z)) (sym e)
