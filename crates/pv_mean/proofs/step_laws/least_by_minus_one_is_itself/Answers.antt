use Rattle.std.proofs.Common.{refl}
use Rattle.pv_word.specs.Wrap.{wrap_at}
use Rattle.pv_mean.proofs.step_laws.least_by_minus_one_is_itself.Goals as goal

pub returns-clause-int : goal.returns-clause-int
unfolding wrap_at
returns-clause-int c = λ place. refl

pub returns-clause-dint : goal.returns-clause-dint
unfolding wrap_at
returns-clause-dint c = λ place. refl

pub returns-clause-int_rest : goal.returns-clause-int_rest
unfolding wrap_at
returns-clause-int_rest c = λ place. refl

pub returns-clause-dint_rest : goal.returns-clause-dint_rest
unfolding wrap_at
returns-clause-dint_rest c = λ place. refl
