use Rattle.std.proofs.Common.{◌≡◌, ◌≤◌, map, drop, length}
use Rattle.pv_names.specs.Sorts.{sort_tree}
use Rattle.pv_names.specs.Widest.{gathered}
use Rattle.pv_names.proofs.operator.gather.Given as goal

abbrev pub invariant-loop-i : goal.invariant-loop-i
invariant-loop-i l = (l.i ≤ length l.parts) × (l.widest ≡ gathered l.want (map sort_tree (drop l.i l.parts)))

abbrev pub decreases-loop-i : goal.decreases-loop-i
decreases-loop-i l = l.i
