use Rattle.std.proofs.Common.{◌≡◌, length, reverse}
use Rattle.pv_flow.specs.Windows.{closed}
use Rattle.pv_flow.proofs.windows.close.Given as goal

-- what is taken off is what would be taken off in the end
abbrev pub invariant-loop-stack : goal.invariant-loop-stack
invariant-loop-stack l = closed l.location (reverse l.stack.items) ≡ closed l.location (reverse l.fn.stack.items)

abbrev pub decreases-loop-stack : goal.decreases-loop-stack
decreases-loop-stack l = length l.stack.items
