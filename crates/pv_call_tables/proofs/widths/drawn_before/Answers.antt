use Rattle.pv_call_tables.specs.Widths.{drawn_at}
use Rattle.pv_call_tables.proofs.SumLaws.{sum_short, part_short}
use Rattle.pv_call_tables.proofs.Wants.{passed_on, not_beyond}
use Rattle.pv_call_tables.proofs.widths.drawn_before.Goals as goal

pub returns-in_err-drawn_at-clause-short : goal.returns-in_err-drawn_at-clause-short
returns-in_err-drawn_at-clause-short c short =
    passed_on c.from_residual-in_err-drawn_at.result c.in_err-drawn_at.field-0.0 c.from_residual-in_err-drawn_at.ensures.1
    (c.in_err-drawn_at.ensures.short (part_short (drawn_at c.args.outline.now.ends.now c.args.outline.now.calls.now c.args.called.now.sizes.now c.args.called.now.counts.now c.args.called.now.outs)
    c.args.locations c.loop-l.l c.loop-l-test.true short))

pub returns-in_err-total-clause-short : goal.returns-in_err-total-clause-short
returns-in_err-total-clause-short c short =
    passed_on c.from_residual-in_err-total.result c.in_err-total.field-0.0 c.from_residual-in_err-total.ensures.1
    (not_beyond _ c.in_err-total.field-0.0 (sum_short (drawn_at c.args.outline.now.ends.now c.args.outline.now.calls.now c.args.called.now.sizes.now c.args.called.now.counts.now c.args.called.now.outs)
    c.args.locations c.loop-l.l c.loop-l.total _ c.loop-l-test.true c.loop-l.invariant.total c.in_ok-drawn_at.ensures.width short) c.in_err-total.ensures.large)
