use Rattle.std.proofs.Common.{◌≡◌, ◌+◌, ◌*◌, drop, map}
use Rattle.pv_flow.specs.View.{call_edge_of}
use Rattle.pv_inline.specs.Blocks.{blocks_in, codes_in}
use Rattle.pv_inline.specs.Counts.{calls_after}
use Rattle.pv_inline.proofs.size.+sizing.Given as goal

abbrev pub decreases-calls_after : goal.decreases-calls_after
decreases-calls_after l = 2 * l.levels + 1

abbrev pub decreases-size_after : goal.decreases-size_after
decreases-size_after l = 2 * l.levels

abbrev pub invariant-calls_after-loop-call : goal.invariant-calls_after-loop-call
invariant-calls_after-loop-call l = calls_after (blocks_in (codes_in l.blocks)) l.levels (map call_edge_of (drop l.call-index l.calls)) l.all
    ≡ calls_after (blocks_in (codes_in l.blocks)) l.levels (map call_edge_of l.calls) l.total
