use Rattle.std.proofs.Common.{map, ap, arith}
use Rattle.std.specs.Prelude.{string_bytes}
use Rattle.pv_tree.specs.View.{operand_tree}
use Rattle.pv_pattern_read.proofs.NamingLaws.{named_next, named_all}
use Rattle.pv_pattern_read.proofs.named.named_in.Goals as goal

pub loop-text-init : goal.loop-text-init
loop-text-init c = ap (map operand_tree) c.new-named.ensures.items

pub loop-text-preserved : goal.loop-text-preserved
loop-text-preserved c =
    named_next string_bytes c.args.all.now c.loop-text.text-index c.text-item.result c.as_str.result.now (map operand_tree c.loop-text.named.items) _
    (omega arith) c.text-item.is c.as_str.ensures.value c.in_ok-push_named.ensures c.loop-text.invariant

pub returns : goal.returns
returns c = named_all string_bytes c.args.all.now c.loop-text.text-index (map operand_tree c.loop-text.named.items) (omega arith) c.loop-text.invariant
