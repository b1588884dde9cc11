use Rattle.std.proofs.Common.{refl, rules}
use Rattle.pv_names.specs.Sorts.{want_tree}
use Rattle.pv_rules_expr.proofs.Adding.{outside_next}
use Rattle.pv_rules_expr.proofs.added.add_arguments.Goals as goal

pub loop-arg-preserved : goal.loop-arg-preserved
loop-arg-preserved c = λ written.
    outside_next (want_tree c.args.wants.first) (want_tree c.args.wants.others) (want_tree c.loop-arg.next) c.args.args.now c.loop-arg.arg-index _
    c.arg-item.result c.loop-arg.rest.now c.in-Some.more.now c.in-Some.part.now c.args.near.now c.loop-arg.near c.add_outside.new.near
    c.loop-arg-test.true c.arg-item.is refl (search rules) c.add_outside.ensures (c.loop-arg.invariant written)
