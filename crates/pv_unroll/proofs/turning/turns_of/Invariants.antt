use Rattle.std.proofs.Common.{◌≡◌, drop, map}
use Rattle.pv_flow.specs.View.{loop_of}
use Rattle.pv_unroll.specs.Turning.{all_marked, turns_of}
use Rattle.pv_unroll.proofs.turning.turns_of.Given as goal

abbrev pub invariant-loop-range : goal.invariant-loop-range
invariant-loop-range l = all_marked l.found.items l.range (map loop_of (drop l.range l.loops)) ≡ turns_of l.edges (map loop_of l.loops)
