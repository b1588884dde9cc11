use Rattle.pv_machine.specs.Joining.{same_back}
use Rattle.pv_machine.proofs.Same.{same_itself, same_on}
use Rattle.pv_machine.proofs.same_laws.sameness_is_an_equivalence.Goals as goal

pub returns-clause-itself : goal.returns-clause-itself
returns-clause-itself c = same_itself

pub returns-clause-back : goal.returns-clause-back
returns-clause-back c = same_back

pub returns-clause-on : goal.returns-clause-on
returns-clause-on c = same_on
