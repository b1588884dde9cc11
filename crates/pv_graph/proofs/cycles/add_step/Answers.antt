use Rattle.pv_graph.proofs.Turning.{step_added}
use Rattle.pv_graph.proofs.cycles.add_step.Goals as goal

pub returns-in_ok-push : goal.returns-in_ok-push
returns-in_ok-push c = λ g are step.
    step_added g c.args.back.now.items c.index_mut.result.now _ c.args.from c.args.to c.index_mut.ensures.value
    c.in_ok-push.ensures.items are step
