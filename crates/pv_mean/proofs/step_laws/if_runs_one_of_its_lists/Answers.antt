use Rattle.pv_mean.proofs.Steps.{if-true, if-false}
use Rattle.pv_mean.proofs.step_laws.if_runs_one_of_its_lists.Goals as goal

pub returns-clause-first : goal.returns-clause-first
returns-clause-first c = if-true

pub returns-clause-second : goal.returns-clause-second
returns-clause-second c = if-false
