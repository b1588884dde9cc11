use Rattle.std.proofs.Common.{refl, sym}
use Rattle.pv_cells.proofs.Graphing.{size-at, size-none}
use Rattle.pv_cells.proofs.graph.size_at.Goals as goal

pub returns-in-Some : goal.returns-in-Some
returns-in-Some c = λ project n are is.
    size-at project n c.args.nodes.now c.args.below.now are is c.args.number c.in-Some.node.now c.sum.result c.in-Some.node.now.own c.count_at.result 0
    (sym c.in-Some.ensures) refl c.count_at.ensures c.sum.ensures

pub returns-in-None : goal.returns-in-None
returns-in-None c = λ project n are is. size-none project n c.args.nodes.now are c.args.number (sym c.in-None.ensures)
