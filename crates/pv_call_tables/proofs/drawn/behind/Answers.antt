use Rattle.pv_call_tables.specs.Drawing.{next_after}
use Rattle.pv_call_tables.proofs.DrawLaws.{next_within}
use Rattle.pv_call_tables.proofs.Wants.{passed_on, at_most}
use Rattle.pv_call_tables.proofs.drawn.behind.Goals as goal

pub returns-in_err-next-clause-short : goal.returns-in_err-next-clause-short
returns-in_err-next-clause-short c short =
    passed_on c.from_residual.result c.in_err-next.field-0.0 c.from_residual.ensures.1
    (c.in_err-next.ensures.short (at_most _ (next_after c.args.first c.args.drawn.now)
    (next_within c.loop-d.next c.args.first c.args.drawn.now c.loop-d.d-index _ c.loop-d-test.true c.loop-d.invariant) short))
