use Rattle.std.proofs.Common.{◌≡◌, ◌-◌, length, drop, map}
use Rattle.pv_flow.specs.View.{loop_of}
use Rattle.pv_unroll.specs.Sizing.{begun_at}
use Rattle.pv_unroll.specs.Seen.{sizing_seen}
use Rattle.pv_unroll.proofs.sizing.Sizing.begin_at.Given as goal

abbrev pub invariant-loop-self : goal.invariant-loop-self
invariant-loop-self l = begun_at l.at (drop l.self.next (map loop_of l.loops)) (sizing_seen l.self)
    ≡ begun_at l.at (drop l.fn.self.next (map loop_of l.loops)) (sizing_seen l.fn.self)

abbrev pub decreases-loop-self : goal.decreases-loop-self
decreases-loop-self l = length l.loops - l.self.next
