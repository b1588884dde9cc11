use Rattle.pv_call_tables.specs.Widths.{text_at}
use Rattle.pv_call_tables.proofs.SumLaws.{sum_short, part_short}
use Rattle.pv_call_tables.proofs.Wants.{passed_on, not_beyond}
use Rattle.pv_call_tables.proofs.widths.starts.Goals as goal

pub returns-in_err-text_at-clause-short : goal.returns-in_err-text_at-clause-short
returns-in_err-text_at-clause-short c short =
    passed_on c.from_residual-in_err-text_at.result c.in_err-text_at.field-0.0 c.from_residual-in_err-text_at.ensures.1
    (c.in_err-text_at.ensures.short (part_short (text_at c.args.outline.now.ends.now c.args.outline.now.calls.now c.args.texts.now)
    c.args.locations c.loop-l.l c.loop-l-test.true short))

pub returns-in_err-total-clause-short : goal.returns-in_err-total-clause-short
returns-in_err-total-clause-short c short =
    passed_on c.from_residual-in_err-total.result c.in_err-total.field-0.0 c.from_residual-in_err-total.ensures.1
    (not_beyond _ c.in_err-total.field-0.0 (sum_short (text_at c.args.outline.now.ends.now c.args.outline.now.calls.now c.args.texts.now)
    c.args.locations c.loop-l.l c.loop-l.total _ c.loop-l-test.true c.loop-l.invariant.total c.in_ok-text_at.ensures.width short) c.in_err-total.ensures.large)
