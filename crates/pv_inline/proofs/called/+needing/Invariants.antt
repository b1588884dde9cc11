use Rattle.std.proofs.Common.{◌≡◌, ◌+◌, ◌*◌, drop, map}
use Rattle.pv_flow.specs.Calls.{needed_by_calls, needed_within}
use Rattle.pv_flow.specs.View.{call_edge_of}
use Rattle.pv_inline.specs.Blocks.{blocks_in, codes_in}
use Rattle.pv_inline.proofs.called.+needing.Given as goal

abbrev pub decreases-needed_by_calls : goal.decreases-needed_by_calls
decreases-needed_by_calls l = 2 * l.levels + 1

abbrev pub decreases-needed : goal.decreases-needed
decreases-needed l = 2 * l.levels

abbrev pub invariant-needed_by_calls-loop-call : goal.invariant-needed_by_calls-loop-call
invariant-needed_by_calls-loop-call l =
    l.all + needed_by_calls (needed_within (blocks_in (codes_in l.blocks)) l.levels) (map call_edge_of (drop l.call-index l.calls))
    ≡ l.total + needed_by_calls (needed_within (blocks_in (codes_in l.blocks)) l.levels) (map call_edge_of l.calls)
