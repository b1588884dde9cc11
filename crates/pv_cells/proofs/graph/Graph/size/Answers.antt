use Rattle.pv_bytes.specs.NamedBytes.{bytes_tree}
use Rattle.pv_mean.specs.Cells as table
use Rattle.pv_cells.specs.Graphs.{node_tree}
use Rattle.pv_cells.specs.Drawn.{drawn}
use Rattle.pv_cells.proofs.Sums.{both-counted}
use Rattle.pv_cells.proofs.graph.Graph.size.Goals as goal

pub returns : goal.returns
returns c =
    let p = drawn c.args.self.now in
    let b = node_tree c.args.node.now in
    both-counted (table.visible_part p b (bytes_tree c.args.bytes.now)) (table.brief_cells p b) c.visible_size-visible.result c.size_at-brief.result
    c.sum.result c.visible_size-visible.ensures (c.size_at-brief.ensures b c.requires.at) c.sum.ensures
