use Rattle.std.proofs.Common.{map}
use Rattle.pv_flow.specs.Calls.{needed, needed_by_calls}
use Rattle.pv_flow.specs.View.{call_edge_of}
use Rattle.pv_call_tables.proofs.ForCallers.{passed_on, not_beyond}
use Rattle.pv_inline.specs.Blocks.{blocks_in, codes_in}
use Rattle.pv_inline.proofs.Shorts.{need_short, called_short, needed_at, needed_as, from_zero}
use Rattle.pv_inline.proofs.table.bases_of.Goals as goal

pub returns-in_err-needed-clause-short : goal.returns-in_err-needed-clause-short
returns-in_err-needed-clause-short c short =
    passed_on c.from_residual-in_err-needed.result c.in_err-needed.field-0.0 c.from_residual-in_err-needed.ensures.1
    (c.in_err-needed.ensures.short (needed_at (codes_in c.args.blocks.now) _ c.count.result c.count.ensures
    (called_short (needed (blocks_in (codes_in c.args.blocks.now))) c.args.calls.now c.loop-call.call-index _ c.loop-call.total 0 c.loop-call-test.true c.loop-call.invariant.total
    (from_zero (needed_by_calls (needed (blocks_in (codes_in c.args.blocks.now))) (map call_edge_of c.args.calls.now)) short))))

pub returns-in_err-total-clause-short : goal.returns-in_err-total-clause-short
returns-in_err-total-clause-short c short =
    passed_on c.from_residual-in_err-total.result c.in_err-total.field-0.0 c.from_residual-in_err-total.ensures.1
    (not_beyond _ c.in_err-total.field-0.0
    (need_short (needed (blocks_in (codes_in c.args.blocks.now))) c.args.calls.now c.loop-call.call-index _ c.loop-call.total 0 c.in_ok-needed.field-0 c.loop-call-test.true
    c.loop-call.invariant.total (from_zero (needed_by_calls (needed (blocks_in (codes_in c.args.blocks.now))) (map call_edge_of c.args.calls.now)) short)
    (needed_as (codes_in c.args.blocks.now) _ c.count.result c.in_ok-needed.field-0 c.count.ensures c.in_ok-needed.ensures.number)) c.in_err-total.ensures.large)
