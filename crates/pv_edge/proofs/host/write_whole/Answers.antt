use Rattle.pv_edge.proofs.Known.{took-more, took-part, took-part-kept, took-part-none, on-false}
use Rattle.pv_edge.proofs.host.write_whole.Goals as goal

pub returns-in_default-clause-part : goal.returns-in_default-clause-part
returns-in_default-clause-part g c = took-part-kept _ _ _ _ _ c.loop.invariant c.in_default.ensures.bytes

pub returns-then-n-eq0-clause-part : goal.returns-then-n-eq0-clause-part
returns-then-n-eq0-clause-part g c = took-part-none _ _ _ _ _ _ c.loop.invariant c.in-Ok.ensures.bytes

pub loop-preserved : goal.loop-preserved
loop-preserved g c = took-more _ _ _ _ _ _ _ c.loop.invariant c.in-Ok.ensures.bytes c.split_at.ensures.back

pub returns-clause-part : goal.returns-clause-part
returns-clause-part g c = on-false c.is_empty-2.result (took-part _ _ _ _ c.loop.invariant)
