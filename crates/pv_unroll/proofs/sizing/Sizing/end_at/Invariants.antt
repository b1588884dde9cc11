use Rattle.std.proofs.Common.{◌≡◌, length, map}
use Rattle.pv_flow.specs.View.{loop_of}
use Rattle.pv_unroll.specs.Sizing.{ended_at}
use Rattle.pv_unroll.specs.Seen.{sizing_seen, taking_seen}
use Rattle.pv_unroll.proofs.sizing.Sizing.end_at.Given as goal

abbrev pub invariant-loop-begun : goal.invariant-loop-begun
invariant-loop-begun l = ended_at (taking_seen l.taking) l.weights (map loop_of l.loops) l.at (length l.self.begun.items) (sizing_seen l.self)
    ≡ ended_at (taking_seen l.taking) l.weights (map loop_of l.loops) l.at (length l.fn.self.begun.items) (sizing_seen l.fn.self)

abbrev pub decreases-loop-begun : goal.decreases-loop-begun
decreases-loop-begun l = length l.self.begun.items
