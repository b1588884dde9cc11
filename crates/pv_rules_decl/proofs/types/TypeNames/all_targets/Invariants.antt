use Rattle.std.proofs.Common.{List, map, take}
use Rattle.pv_tree.specs.Tree.{BlockTree}
use Rattle.pv_tree.specs.View.{block_tree}
use Rattle.pv_graph.specs.Graphs.{lists_of}
use Rattle.pv_rules_decl.specs.TypeNumbers.{targets_in}
use Rattle.pv_rules_decl.specs.TypeNames.{NumbersTypes, LeadToTheSame}
use Rattle.pv_rules_decl.proofs.types.TypeNames.all_targets.Given as goal

abbrev pub invariant-loop-block : goal.invariant-loop-block
invariant-loop-block l = (bs : List BlockTree) → NumbersTypes l.self bs
    → LeadToTheSame (lists_of l.next.items) (map (targets_in bs) (map block_tree (take l.block-index l.blocks)))
