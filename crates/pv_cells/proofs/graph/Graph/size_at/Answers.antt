use Rattle.std.proofs.Common.{◌∙◌, sym, subst}
use Rattle.pv_cells.specs.Graphs.{NodesAre}
use Rattle.pv_cells.specs.Drawn.{drawn}
use Rattle.pv_cells.proofs.Graphing.{size-brief}
use Rattle.pv_cells.proofs.graph.Graph.size_at.Goals as goal

pub returns : goal.returns
returns c = λ block is.
    c.size_at.ensures (drawn c.args.self.now) 7 (subst (NodesAre (drawn c.args.self.now)) (sym c.as_slice.ensures.value) c.requires.are)
    (c.as_slice-2.ensures.value ∙ c.requires.counted) ∙ size-brief (drawn c.args.self.now) c.args.number block is
