use Rattle.pv_machine.proofs.Same.{lawful_too, same_base, same_step, same_reachable, same_runs}
use Rattle.pv_machine.proofs.same_laws.same_machines_meet_the_same.Goals as goal

pub returns-clause-lawful : goal.returns-clause-lawful
returns-clause-lawful c = lawful_too

pub returns-clause-base : goal.returns-clause-base
returns-clause-base c = same_base

pub returns-clause-step : goal.returns-clause-step
returns-clause-step c = same_step

pub returns-clause-reachable : goal.returns-clause-reachable
returns-clause-reachable c = same_reachable

pub returns-clause-runs : goal.returns-clause-runs
returns-clause-runs c = same_runs
