use Rattle.std.proofs.Common.{[], map, take}
use Rattle.pv_rules_expr.specs.Nearest.{Nears}
use Rattle.pv_rules_expr.specs.Members.{IsLaterBehind}
use Rattle.pv_rules_decl.specs.Doubles.{AreMet, name_of_block}
use Rattle.pv_rules_decl.proofs.doubled.doubled_blocks.Given as goal

abbrev pub invariant-loop-block : goal.invariant-loop-block
invariant-loop-block l = record {
  met : AreMet l.names (map name_of_block (take l.block-index l.blocks));
  near : Nears (IsLaterBehind [] (map name_of_block (take l.block-index l.blocks))) l.fn.nearest l.nearest;
}
