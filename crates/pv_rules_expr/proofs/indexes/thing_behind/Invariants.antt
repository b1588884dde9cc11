use Rattle.std.proofs.Common.{◌≡◌, map, drop}
use Rattle.pv_tree.specs.View.{steps_of, step_tree}
use Rattle.pv_tree.specs.Things.{thing_behind}
use Rattle.pv_names.specs.InScope.{scope_of}
use Rattle.pv_names.specs.Views.{thing_tree}
use Rattle.pv_rules_expr.proofs.indexes.thing_behind.Given as goal

abbrev pub invariant-loop-step : goal.invariant-loop-step
invariant-loop-step l =
    thing_behind (scope_of l.scope) l.last (thing_tree l.thing) (steps_of (map step_tree (drop l.step-index l.steps)))
    ≡ thing_behind (scope_of l.scope) l.fn.name (thing_tree l.from) (steps_of (map step_tree l.steps))
