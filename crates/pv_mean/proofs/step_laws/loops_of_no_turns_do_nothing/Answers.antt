use Rattle.pv_mean.proofs.Steps.{while-none, for-none}
use Rattle.pv_mean.proofs.step_laws.loops_of_no_turns_do_nothing.Goals as goal

pub returns-clause-while_loop : goal.returns-clause-while_loop
returns-clause-while_loop c = while-none

pub returns-clause-for_loop : goal.returns-clause-for_loop
returns-clause-for_loop c = for-none
