use Rattle.pv_graph.proofs.Searching.{falls_more}
use Rattle.pv_graph.proofs.graph.no_step_raises.Goals as goal

pub loop-node-preserved : goal.loop-node-preserved
loop-node-preserved c =
    falls_more c.args.next.now c.args.order.now _ c.loop-node.node _ c.index-next-node.result c.none_above.result c.loop-node-test.true c.index-next-node.is c.as_slice.ensures.value
    c.number_at.ensures c.none_above.ensures c.if-not-none_above.false c.loop-node.invariant
