-- Operands of the code as plain data, and the name that one is alone.
use Rattle.std.proofs.Common.{◌≡◌, List, [], ◌∷◌, map, length, true, false, true≢false, None, refl, ap, ◌∙◌, nat_eq, arith}
use Rattle.std.proofs.lemmas.Bool.{eqb-true}
use Rattle.pv_place.specs.declared.place.Place.{Place}
use Rattle.pv_tree.specs.declared.expr.Root.{Root}
use Rattle.pv_tree.specs.declared.expr.Operand.{Operand}
use Rattle.pv_tree.specs.declared.expr.Step.{Step}
use Rattle.pv_tree.specs.Tree.{operand}
use Rattle.pv_tree.specs.View.{operand_tree, step_tree, steps_of}
use Rattle.pv_tree.proofs.ForCallers.{operand_seen}
use Rattle.pv_case_fit.specs.Named.{name_of_root, name_of_operand}

stepless : (root : Root) (place : Place) (list : List Step) → nat_eq (length list) 0 ≡ true
    → name_of_operand (operand root (steps_of (map step_tree list)) place) ≡ name_of_root root
stepless root place [] e = refl
stepless root place (step ∷ more) e = absurd (omega (arith, eqb-true (length (step ∷ more)) 0 e))

stepped : (root : Root) (place : Place) (list : List Step) → nat_eq (length list) 0 ≡ false
    → name_of_operand (operand root (steps_of (map step_tree list)) place) ≡ None
stepped root place [] e = absurd (true≢false e)
stepped root place (step ∷ more) e = refl

-- one with steps is no name
pub steps_unnamed : (o : Operand) → nat_eq (length o.steps.items) 0 ≡ false → name_of_operand (operand_tree o) ≡ None
steps_unnamed o e = ap name_of_operand (operand_seen o) ∙ stepped o.root.value o.place o.steps.items e

-- one without steps has the name of where it begins
pub root_named : (o : Operand) → nat_eq (length o.steps.items) 0 ≡ true → name_of_operand (operand_tree o) ≡ name_of_root o.root.value
root_named o e = ap name_of_operand (operand_seen o) ∙ stepless o.root.value o.place o.steps.items e
