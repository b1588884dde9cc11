use Rattle.std.proofs.Common.{refl, option_map}
use Rattle.pv_mean.specs.LaidOut.{laid_tree}
use Rattle.pv_cells.specs.Planned.{planned}
use Rattle.pv_cells.proofs.DataFields.{step-left, steps-done}
use Rattle.pv_cells.proofs.plan.Plan.all_behind.Goals as goal

pub loop-step-preserved : goal.loop-step-preserved
loop-step-preserved c =
    step-left (planned c.args.self.now) c.args.steps.now c.loop-step.step-index (option_map laid_tree c.loop-step.so_far) _ _ c.step-item.result
    c.loop-step-test.true c.step-item.is refl (option_map laid_tree c.behind-so_far.result) c.behind-so_far.ensures c.loop-step.invariant

pub returns : goal.returns
returns c =
    steps-done (planned c.args.self.now) c.args.steps.now c.loop-step.step-index (option_map laid_tree c.loop-step.so_far) _ c.loop-step-test.false
    c.loop-step.invariant
