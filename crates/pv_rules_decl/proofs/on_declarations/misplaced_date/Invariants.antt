use Rattle.std.proofs.Common.{map, take}
use Rattle.std.specs.Prelude.{None}
use Rattle.pv_tree.specs.View.{block_tree}
use Rattle.pv_rules_expr.specs.Members.{HasSome}
use Rattle.pv_rules_expr.specs.Nearest.{Nears}
use Rattle.pv_rules_decl.specs.BlockLists.{MisplacesDateIn}
use Rattle.pv_rules_decl.proofs.on_declarations.misplaced_date.Given as goal

abbrev pub invariant-loop-block : goal.invariant-loop-block
invariant-loop-block l = Nears (λ at. HasSome (MisplacesDateIn at) (map block_tree (take l.block-index l.blocks))) None l.nearest
