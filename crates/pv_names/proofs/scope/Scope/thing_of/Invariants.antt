use Rattle.std.proofs.Common.{◌≡◌, map, drop}
use Rattle.pv_tree.specs.View.{steps_of, step_tree, operand_tree}
use Rattle.pv_tree.specs.Things.{thing_behind}
use Rattle.pv_tree.specs.Things as things
use Rattle.pv_names.specs.InScope.{scope_of}
use Rattle.pv_names.specs.Views.{thing_tree}
use Rattle.pv_names.proofs.scope.Scope.thing_of.Given as goal

abbrev pub invariant-loop-step : goal.invariant-loop-step
invariant-loop-step l =
    thing_behind (scope_of l.self) l.last (thing_tree l.thing) (steps_of (map step_tree (drop l.step-index l.step-items)))
    ≡ things.thing_of (scope_of l.self) (operand_tree l.operand)
