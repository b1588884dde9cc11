use Rattle.std.proofs.Common.{arith}
use Rattle.pv_flow.proofs.WindowLaws.{none_filled, one_filled}
use Rattle.pv_flow.proofs.windows.fill.Goals as goal

pub loop-windows-init : goal.loop-windows-init
loop-windows-init c = none_filled _ _ _

pub loop-windows-preserved : goal.loop-windows-preserved
loop-windows-preserved c =
    one_filled _ _ _ _ _ _ _ c.loop-windows.invariant
    (omega (arith, c.loop-windows-test.true, c.len.ensures, c.loop-windows.windows.ok.0)) c.in_ok-push_window.ensures.stack c.in_ok-push_window.ensures.windows
