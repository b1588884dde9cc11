use Rattle.std.proofs.Common.{◌-◌, length, reverse}
use Rattle.pv_flow.specs.Windows.{AreFilled}
use Rattle.pv_flow.proofs.windows.fill.Given as goal

abbrev pub invariant-loop-windows : goal.invariant-loop-windows
invariant-loop-windows l =
    AreFilled (reverse l.initial.stack.items) l.initial.windows.items l.count (reverse l.stack.items) l.windows.items

abbrev pub decreases-loop-windows : goal.decreases-loop-windows
decreases-loop-windows l = l.count - length l.windows.items
