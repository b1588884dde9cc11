use Rattle.std.proofs.Common.{map, take}
use Rattle.pv_tree.specs.View.{block_tree}
use Rattle.pv_rules_expr.specs.Members.{HasSome}
use Rattle.pv_rules_expr.specs.Nearest.{Nears}
use Rattle.pv_rules_decl.specs.BlockLists.{DoublesNameIn}
use Rattle.pv_rules_decl.proofs.on_declarations.doubled_name.Given as goal

abbrev pub invariant-loop-block : goal.invariant-loop-block
invariant-loop-block l = Nears (λ at. HasSome (DoublesNameIn at) (map block_tree (take l.block-index l.blocks))) l.initial.nearest l.nearest
