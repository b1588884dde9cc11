use Rattle.pv_recheck.proofs.Verdict.{no_step, no_run}
use Rattle.pv_recheck.proofs.laws.valid_certificates_say_what_is_so.Goals as goal

pub returns-clause-step : goal.returns-clause-step
returns-clause-step c = no_step

pub returns-clause-runs : goal.returns-clause-runs
returns-clause-runs c = no_run
