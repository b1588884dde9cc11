use Rattle.std.proofs.Common.{◌≡◌, ◌+◌, ◌*◌, take}
use Rattle.pv_inline.specs.Blocks.{blocks_in, codes_in}
use Rattle.pv_inline.specs.Tables.{spans_of, span_below}
use Rattle.pv_inline.proofs.called.+spanning.Given as goal

abbrev pub decreases-spans : goal.decreases-spans
decreases-spans l = 2 * l.levels + 1

abbrev pub decreases-span : goal.decreases-span
decreases-span l = 2 * l.levels

abbrev pub invariant-spans-loop-call : goal.invariant-spans-loop-call
invariant-spans-loop-call l = l.made.items ≡ spans_of (span_below (blocks_in (codes_in l.blocks)) l.levels) (take l.call-index l.calls)
