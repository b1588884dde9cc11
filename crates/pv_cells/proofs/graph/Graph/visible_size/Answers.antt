use Rattle.pv_bytes.specs.NamedBytes.{bytes_tree}
use Rattle.pv_cells.specs.Graphs.{node_tree}
use Rattle.pv_cells.specs.Drawn.{drawn}
use Rattle.pv_mean.specs.Sized.{sized_project}
use Rattle.pv_cells.proofs.TableParts.{visible-counted}
use Rattle.pv_cells.proofs.graph.Graph.visible_size.Goals as goal

pub returns : goal.returns
returns c =
    let p = drawn c.args.self.now in
    visible-counted p (sized_project c.args.self.now.plan.now.sizes) c.requires.plan.sized (node_tree c.args.node.now)
    (bytes_tree c.args.bytes.now) (c.tables_are_laid_out.ensures.data_blocks p) c.entry_size-own.result c.of_data_blocks-held.result
    c.size_of_bytes-areas.result c.sum-first.result c.sum.result c.entry_size-own.ensures c.of_data_blocks-held.ensures c.size_of_bytes-areas.ensures
    c.sum-first.ensures c.sum.ensures
