use Rattle.std.proofs.Common.{ap, ◌∙◌}
use Rattle.std.specs.List.{slice_get}
use Rattle.pv_cells.specs.Drawn.{drawn}
use Rattle.pv_cells.proofs.Graphing.{empty-at, found-empty}
use Rattle.pv_cells.proofs.graph.Graph.node_at.Goals as goal

pub returns-then-size_at-eq0-clause-none : goal.returns-then-size_at-eq0-clause-none
returns-then-size_at-eq0-clause-none c = empty-at (drawn c.args.self.now) c.args.number c.size_at.result c.size_at.ensures c.if-size_at-eq0.true

pub returns-clause-none : goal.returns-clause-none
returns-clause-none c =
    found-empty (drawn c.args.self.now) c.args.self.now.nodes.items c.requires.are c.args.number (λ n. n.now) c.find_node.result
    (c.find_node.ensures ∙ ap (λ l. slice_get l c.args.number) c.as_slice.ensures.value)
