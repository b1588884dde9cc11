use Rattle.pv_machine.proofs.Reducing.{base_replays, base_back, step_replays, step_back}
use Rattle.pv_machine.proofs.reduction_laws.exact_reductions_replay.Goals as goal

pub returns-clause-base : goal.returns-clause-base
returns-clause-base c = base_replays

pub returns-clause-meets : goal.returns-clause-meets
returns-clause-meets c = base_back

pub returns-clause-step : goal.returns-clause-step
returns-clause-step c = step_replays

pub returns-clause-meets_step : goal.returns-clause-meets_step
returns-clause-meets_step c = step_back
