use Rattle.std.proofs.Common.{sym, ◌∙◌}
use Rattle.pv_log.proofs.LeftLaws.{left-second}
use Rattle.pv_log.proofs.left.count_left.Goals as goal

pub returns-in_default : goal.returns-in_default
returns-in_default c =
    left-second c.args.values.now.falses c.args.clause.now c.loop-lit.lit-index c.loop-lit-test.true (sym c.is_false.ensures ∙ c.if-is_false.false) (λ e. c.in_default.not-None (c.loop-lit.invariant ∙ e))
