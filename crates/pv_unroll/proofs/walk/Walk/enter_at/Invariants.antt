use Rattle.std.proofs.Common.{◌≡◌, ◌-◌, length, drop, map}
use Rattle.pv_flow.specs.View.{loop_of}
use Rattle.pv_unroll.specs.Walking.{entered_at}
use Rattle.pv_unroll.specs.Seen.{walk_seen}
use Rattle.pv_unroll.proofs.walk.Walk.enter_at.Given as goal

abbrev pub invariant-loop-self : goal.invariant-loop-self
invariant-loop-self l = entered_at (drop l.self.next (map loop_of l.loops)) (walk_seen l.self)
    ≡ entered_at (drop l.fn.self.next (map loop_of l.loops)) (walk_seen l.fn.self)

abbrev pub decreases-loop-self : goal.decreases-loop-self
decreases-loop-self l = length l.loops - l.self.next
