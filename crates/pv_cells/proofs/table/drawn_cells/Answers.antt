use Rattle.std.proofs.Common.{map}
use Rattle.pv_tree.specs.View.{operand_tree}
use Rattle.pv_mean.specs.AreaBytes.{bytes_of}
use Rattle.pv_bytes.specs.NamedBytes.{bytes_tree}
use Rattle.pv_cells.specs.Drawn.{drawn}
use Rattle.pv_cells.specs.Planned.{planned}
use Rattle.pv_cells.proofs.TableParts.{tabled-of}
use Rattle.pv_cells.proofs.table.drawn_cells.Goals as goal

pub returns : goal.returns
returns c =
    tabled-of (drawn c.in_ok-graph.graph) (planned c.args.plan.now) c.args.entry (bytes_tree c.in_ok-bytes.bytes)
    (bytes_of (planned c.args.plan.now) (map operand_tree c.args.named.now)) c.entered.result c.in_ok-graph.ensures.project c.in_ok-bytes.ensures
    c.entered.ensures
