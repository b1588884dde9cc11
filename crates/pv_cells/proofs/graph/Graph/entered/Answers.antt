use Rattle.pv_cells.specs.Drawn.{drawn}
use Rattle.pv_cells.specs.Graphs.{node_tree}
use Rattle.pv_bytes.specs.NamedBytes.{bytes_tree}
use Rattle.pv_cells.proofs.TableParts.{tabled}
use Rattle.pv_cells.proofs.graph.Graph.entered.Goals as goal

pub returns : goal.returns
returns c =
    tabled (drawn c.args.self.now) c.args.number (bytes_tree c.args.bytes.now) (node_tree c.in-Some.node.now) c.table.result c.in-Some.ensures.some
    c.table.ensures.cells c.table.ensures.within c.table.ensures.too_large
