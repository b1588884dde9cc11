use Rattle.pv_report.proofs.Determined.{one_verdict}
use Rattle.pv_report.proofs.laws.reports_determine_verdicts.Goals as goal

pub returns : goal.returns
returns c = one_verdict
