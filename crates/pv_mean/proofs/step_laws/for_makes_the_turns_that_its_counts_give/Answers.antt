use Rattle.pv_mean.proofs.Steps.{for-turns, for-over}
use Rattle.pv_mean.proofs.step_laws.for_makes_the_turns_that_its_counts_give.Goals as goal

pub returns-clause-within : goal.returns-clause-within
returns-clause-within c = for-turns

pub returns-clause-past : goal.returns-clause-past
returns-clause-past c = for-over
