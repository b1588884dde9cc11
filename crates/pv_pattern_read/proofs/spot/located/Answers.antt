use Rattle.std.proofs.Common.{sym, ap, ◌∙◌}
use Rattle.pv_eval.specs.Traps.{located}
use Rattle.pv_pattern_read.proofs.Wanted.{trap_not_got}
use Rattle.pv_pattern_read.proofs.spot.located.Goals as goal

pub unreachable-requires : goal.unreachable-requires
unreachable-requires c =
    let h = c.requires in
    trap_not_got c.in-Err.field-0 h.spot
    (ap located (sym c.in-Err.is) ∙ c.locate.ensures.value h.source h.block h.operand h.is ∙ h.named)
