use Rattle.std.proofs.Common.{◌∙◌, sym, refl}
use Rattle.pv_tree.specs.View.{arg_tree}
use Rattle.pv_tree.specs.Scopes.{value_key}
use Rattle.pv_names.specs.Entries.{block_of}
use Rattle.pv_names.specs.Callees.{how_tree}
use Rattle.pv_mean.specs.Calls.{is_for}
use Rattle.pv_program.proofs.Arguments.{find-here, find-later}
use Rattle.pv_program.proofs.argument.argument_for_value.Goals as goal

pub returns-then-is_for_value : goal.returns-then-is_for_value
returns-then-is_for_value c =
    find-here (is_for (how_tree c.args.how) (block_of c.args.callee.now) value_key) arg_tree c.deref-arg-items.result.now
    c.args.call.now.args.items c.loop-arg.arg-index c.arg-item.result c.loop-arg-test.true c.arg-item.is
    (sym c.is_for_value.ensures ∙ c.if-is_for_value.true) c.deref-arg-items.ensures.value c.loop-arg.invariant

pub loop-arg-preserved : goal.loop-arg-preserved
loop-arg-preserved c =
    find-later (is_for (how_tree c.args.how) (block_of c.args.callee.now) value_key) arg_tree c.deref-arg-items.result.now
    c.loop-arg.arg-index _ c.arg-item.result c.loop-arg-test.true c.arg-item.is
    (sym c.is_for_value.ensures ∙ c.if-is_for_value.false) refl c.loop-arg.invariant
