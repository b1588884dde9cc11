use Rattle.pv_cells.proofs.Graphing.{given}
use Rattle.pv_cells.proofs.node.find_node.Goals as goal

pub returns : goal.returns
returns c = given (λ n. n.now) c.args.nodes.now c.args.number c.get.result c.get.ensures.lookup.0 c.get.ensures.lookup.1
