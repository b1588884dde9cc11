use Rattle.std.proofs.Common.{◌≡◌, drop, map}
use Rattle.pv_flow.specs.View.{loop_of}
use Rattle.pv_unroll.specs.Sizing.{sized_from, sized}
use Rattle.pv_unroll.specs.Seen.{sizing_seen, taking_seen}
use Rattle.pv_unroll.proofs.sizing.sized.Given as goal

abbrev pub invariant-loop-weight : goal.invariant-loop-weight
invariant-loop-weight l = sized_from (taking_seen l.taking) (map loop_of l.loops) l.weights l.at (drop l.weight-index l.weights) (sizing_seen l.sizing)
    ≡ sized (taking_seen l.taking) (map loop_of l.loops) l.weights
