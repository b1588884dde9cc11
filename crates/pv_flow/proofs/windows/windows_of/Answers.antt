use Rattle.pv_flow.proofs.WindowLaws.{have_windows}
use Rattle.pv_flow.proofs.windows.windows_of.Goals as goal

pub returns : goal.returns
returns c = have_windows c.in_ok-swept.swept _ _ _ _ _ _ c.in_ok-swept.ensures c.in_ok-fill.ensures.filled c.in_ok-fill.ensures.count
