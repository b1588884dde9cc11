use Rattle.std.proofs.Common.{map, take}
use Rattle.std.specs.Prelude.{string_bytes}
use Rattle.pv_tree.specs.View.{operand_tree}
use Rattle.pv_pattern.specs.Texts.{AreNamed}
use Rattle.pv_pattern_read.proofs.named.named_in.Given as goal

abbrev pub invariant-loop-text : goal.invariant-loop-text
invariant-loop-text l = AreNamed (map string_bytes (take l.text-index l.all)) (map operand_tree l.named.items)
