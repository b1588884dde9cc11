use Rattle.pv_command_verdict.proofs.Kept.{valid_for}
use Rattle.pv_command_verdict.proofs.laws.verdicts_have_valid_certificates.Goals as goal

pub returns : goal.returns
returns c = valid_for
