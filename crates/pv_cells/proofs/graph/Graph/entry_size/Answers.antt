use Rattle.std.proofs.Common.{refl}
use Rattle.pv_cells.specs.Graphs.{node_tree}
use Rattle.pv_cells.specs.Drawn.{drawn}
use Rattle.pv_mean.specs.Sized.{sized_project}
use Rattle.pv_cells.proofs.TableParts.{entry-counted}
use Rattle.pv_cells.proofs.graph.Graph.entry_size.Goals as goal

pub returns : goal.returns
returns c =
    let p = drawn c.args.self.now in
    let b = node_tree c.args.node.now in
    entry-counted p (sized_project c.args.self.now.plan.now.sizes) c.requires.plan.sized b b refl (c.tables_are_laid_out.ensures.entry p b)
    c.of_entry.result c.of_entry.ensures
