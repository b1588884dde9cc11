use Rattle.pv_graph.specs.Searches.{marks_of}
use Rattle.pv_graph.proofs.Spreading.{spread_root}
use Rattle.pv_graph.proofs.search.Search.of_roots.Goals as goal

pub loop-node-preserved : goal.loop-node-preserved
loop-node-preserved c = λ g.
    spread_root g c.args.roots.now (marks_of c.loop-node.search) (marks_of c.mark_where.new.self) c.loop-node.node
    c.number_at.result c.number_at.ensures (c.loop-node.invariant g) c.in_ok-mark_where.ensures
