use Rattle.std.proofs.Common.{length}
use Rattle.pv_call_tables.proofs.RankLaws.{count_short}
use Rattle.pv_call_tables.proofs.Wants.{passed_on}
use Rattle.pv_call_tables.proofs.ranking.counts.Goals as goal

pub returns-in_err-raise_at-clause-short : goal.returns-in_err-raise_at-clause-short
returns-in_err-raise_at-clause-short c short =
    passed_on c.from_residual-in_err-raise_at.result c.in_err-raise_at.field-0.0 c.from_residual-in_err-raise_at.ensures.1
    (c.in_err-raise_at.ensures.short
    (count_short c.loop-edge.edge-index (length c.args.edges.now) _ c.loop-edge.found.items c.deref_mut.result.now c.loop-edge-test.true c.deref_mut.ensures.value c.loop-edge.invariant.within short))
