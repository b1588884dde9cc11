use Rattle.pv_graph.proofs.Turning.{there}
use Rattle.pv_graph.proofs.cycles.add_steps.Goals as goal

pub loop-target-preserved : goal.loop-target-preserved
loop-target-preserved c = λ g are all.
    c.in_ok-add_step.ensures g (c.loop-target.invariant g are all)
    (all _ (there c.args.targets.now c.loop-target.target-index _ c.loop-target-test.true))
