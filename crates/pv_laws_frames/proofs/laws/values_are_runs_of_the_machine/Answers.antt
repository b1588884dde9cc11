use Rattle.pv_laws_frames.proofs.MachineRuns.{base-stands, step-stands}
use Rattle.pv_laws_frames.proofs.laws.values_are_runs_of_the_machine.Goals as goal

pub returns-clause-base : goal.returns-clause-base
returns-clause-base c = base-stands

pub returns-clause-step : goal.returns-clause-step
returns-clause-step c = step-stands
