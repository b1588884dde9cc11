use Rattle.std.proofs.Common.{map}
use Rattle.pv_tree.specs.View.{block_tree}
use Rattle.pv_graph.specs.Graphs.{lists_of}
use Rattle.pv_graph.specs.Steps.{steps_of}
use Rattle.pv_rules_decl.specs.TypeNumbers.{types_graph}
use Rattle.pv_rules_decl.proofs.Sharing.{cycles_same}
use Rattle.pv_rules_decl.proofs.types.DeclaredTypes.of.Goals as goal

pub returns : goal.returns
returns c = record {
  names = c.in_ok-names.ensures;
  endless =
      cycles_same (steps_of c.in_ok-graph.graph) (types_graph (map block_tree c.args.blocks.now)) (lists_of c.in_ok-next.next.items)
      c.in_ok-endless.endless.items c.in_ok-graph.ensures (c.in_ok-next.ensures (map block_tree c.args.blocks.now) c.in_ok-names.ensures) c.in_ok-endless.ensures;
}
