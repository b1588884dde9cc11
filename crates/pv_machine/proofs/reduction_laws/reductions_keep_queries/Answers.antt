use Rattle.pv_machine.proofs.Reducing.{base_kept, step_kept, any_step_kept}
use Rattle.pv_machine.proofs.reduction_laws.reductions_keep_queries.Goals as goal

pub returns-clause-base : goal.returns-clause-base
returns-clause-base c = base_kept

pub returns-clause-step : goal.returns-clause-step
returns-clause-step c = step_kept

pub returns-clause-any_step : goal.returns-clause-any_step
returns-clause-any_step c = any_step_kept
