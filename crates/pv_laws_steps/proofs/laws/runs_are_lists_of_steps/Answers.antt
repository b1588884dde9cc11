use Rattle.pv_laws_steps.proofs.Kept.{block_run, one_run}
use Rattle.pv_laws_steps.proofs.laws.runs_are_lists_of_steps.Goals as goal

pub returns-clause-ends : goal.returns-clause-ends
returns-clause-ends c = block_run

pub returns-clause-one : goal.returns-clause-one
returns-clause-one c = λ source calls act instructions s states others end other r q. one_run r q
