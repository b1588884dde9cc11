use Rattle.std.proofs.Common.{refl, map, drop}
use Rattle.pv_tree.specs.View.{steps_of, step_tree}
use Rattle.pv_names.specs.InScope.{scope_of}
use Rattle.pv_names.specs.Views.{thing_tree}
use Rattle.pv_names.proofs.ForCallers.{rest_step}
use Rattle.pv_rules_expr.proofs.IndexWalks.{next_index}
use Rattle.pv_rules_expr.proofs.indexes.index_behind.Goals as goal

pub loop-step-preserved : goal.loop-step-preserved
loop-step-preserved c =
    let steps = c.args.steps.now in
    next_index c.args.what (scope_of c.args.scope.now) (steps_of (map step_tree (drop c.loop-step.step-index steps))) _
    (step_tree c.step-item.result) c.loop-step.last c.last_behind-last.result (thing_tree c.loop-step.thing)
    (thing_tree c.dated-thing.result) (thing_tree c.step-thing.result) c.loop-step.best c.in_ok-best.best _
    (rest_step steps c.loop-step.step-index _ c.step-item.result c.loop-step-test.true c.step-item.is refl)
    c.dated-thing.ensures c.last_behind-last.ensures c.step-thing.ensures c.in_ok-best.ensures c.loop-step.invariant
