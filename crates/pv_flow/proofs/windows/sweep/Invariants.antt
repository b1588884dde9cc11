use Rattle.std.proofs.Common.{map, reverse, take}
use Rattle.pv_flow.specs.View.{loop_of}
use Rattle.pv_flow.specs.Windows.{AreSwept}
use Rattle.pv_flow.proofs.windows.sweep.Given as goal

abbrev pub invariant-loop-range : goal.invariant-loop-range
invariant-loop-range l = AreSwept (map loop_of (take l.range-index l.loops)) (reverse l.stack.items) l.windows.items
