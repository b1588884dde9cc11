use Rattle.pv_recheck.proofs.Verdict.{step_meets}
use Rattle.pv_recheck.proofs.laws.step_formula_holds_where_a_scan_fails.Goals as goal

pub returns : goal.returns
returns c = step_meets
