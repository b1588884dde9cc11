use Rattle.pv_graph.specs.Searches.{marks_of}
use Rattle.pv_graph.proofs.Spreading.{spread_step, spread_fewer}
use Rattle.pv_graph.proofs.search.led_by_roots.Goals as goal

pub loop-node-smaller : goal.loop-node-smaller
loop-node-smaller c =
    spread_fewer c.args.roots.now c.targets_of.result.now c.pop.new.self.items (marks_of c.loop-node.search) (marks_of c.mark_alike.new.self)
    c.in-Some.node c.number_at.result c.in-Some.ensures.items c.in_ok-mark_alike.ensures

pub loop-node-preserved : goal.loop-node-preserved
loop-node-preserved c =
    spread_step c.args.next.now c.args.roots.now c.targets_of.result.now c.pop.new.self.items (marks_of c.loop-node.search)
    (marks_of c.mark_alike.new.self) c.in-Some.node c.number_at.result c.loop-node.invariant c.in-Some.ensures.items c.targets_of.ensures
    c.number_at.ensures c.in_ok-mark_alike.ensures
