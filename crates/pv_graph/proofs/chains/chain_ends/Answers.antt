use Rattle.std.proofs.Common.{rules, arith}
use Rattle.pv_graph.proofs.RoundLaws.{begun_at, round_at, long_at, done_at}
use Rattle.pv_graph.proofs.chains.chain_ends.Goals as goal

pub loop-init : goal.loop-init
loop-init c = begun_at c.args.next.now _ (search rules)

pub step_from-requires : goal.step_from-requires
step_from-requires c = long_at c.args.next.now c.as_slice.result.now c.loop.ends.items c.loop.counter c.as_slice.ensures.value c.loop.invariant

pub loop-preserved : goal.loop-preserved
loop-preserved c =
    round_at c.args.next.now c.as_slice.result.now c.loop.ends.items _ c.loop.counter _ c.as_slice.ensures.value c.loop.invariant
    c.in_ok-ends-2.ensures (omega arith)

pub returns : goal.returns
returns c = done_at c.args.next.now c.loop.ends.items c.loop.counter c.args.steps (omega arith) c.loop.invariant
