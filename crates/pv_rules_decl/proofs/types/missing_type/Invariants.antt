use Rattle.std.proofs.Common.{map, take}
use Rattle.std.specs.Prelude.{None}
use Rattle.pv_tree.specs.View.{block_tree}
use Rattle.pv_rules_expr.specs.Members.{HasSome}
use Rattle.pv_rules_expr.specs.Nearest.{Nears}
use Rattle.pv_rules_decl.specs.TypeNumbers.{HasWrongType}
use Rattle.pv_rules_decl.proofs.types.missing_type.Given as goal

abbrev pub invariant-loop-block : goal.invariant-loop-block
invariant-loop-block l = Nears (λ at. HasSome (HasWrongType (map block_tree l.blocks) at) (map block_tree (take l.block-index l.blocks))) None l.nearest
