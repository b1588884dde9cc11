use Rattle.std.proofs.Common.{refl}
use Rattle.pv_mean.proofs.Divisions.{quotient-got, remainder-got, is-division}
use Rattle.pv_mean.proofs.step_laws.quotient_and_remainder_are_a_division.Goals as goal

pub returns-clause-zero : goal.returns-clause-zero
returns-clause-zero c = λ ty place a. refl

pub returns-clause-zero_rest : goal.returns-clause-zero_rest
returns-clause-zero_rest c = λ ty place a. refl

pub returns-clause-quotient : goal.returns-clause-quotient
returns-clause-quotient c = quotient-got

pub returns-clause-remainder : goal.returns-clause-remainder
returns-clause-remainder c = remainder-got

pub returns-clause-division : goal.returns-clause-division
returns-clause-division c = is-division
