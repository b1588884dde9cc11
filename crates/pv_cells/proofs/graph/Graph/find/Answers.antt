use Rattle.std.proofs.Common.{ap, ◌∙◌}
use Rattle.std.specs.List.{slice_get}
use Rattle.pv_cells.specs.Drawn.{drawn}
use Rattle.pv_cells.proofs.Graphing.{found-block, found-node, found-none}
use Rattle.pv_cells.proofs.graph.Graph.find.Goals as goal

pub returns : goal.returns
returns c =
    let p = drawn c.args.self.now in
    let nodes = c.args.self.now.nodes.items in
    let are = c.requires.are in
    let at = c.find_node.ensures ∙ ap (λ l. slice_get l c.args.number) c.as_slice.ensures.value in
    record {
      is = found-node p nodes are c.args.number (λ n. n.now) c.find_node.result at;
      some = found-block p nodes are c.args.number (λ n. n.now) c.find_node.result at;
      none = found-none p nodes are c.args.number (λ n. n.now) c.find_node.result at;
    }
