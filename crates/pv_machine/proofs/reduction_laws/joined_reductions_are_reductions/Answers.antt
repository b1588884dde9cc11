use Rattle.pv_machine.specs.Joining.{two_joined, exact_joined}
use Rattle.pv_machine.proofs.Reducing.{all_are, all_are_exact}
use Rattle.pv_machine.proofs.reduction_laws.joined_reductions_are_reductions.Goals as goal

pub returns-clause-two : goal.returns-clause-two
returns-clause-two c = two_joined

pub returns-clause-exact : goal.returns-clause-exact
returns-clause-exact c = λ a b between d f g one by_first same two by_second. exact_joined a b between d f g one same two by_first by_second

pub returns-clause-all : goal.returns-clause-all
returns-clause-all c = all_are

pub returns-clause-all_exact : goal.returns-clause-all_exact
returns-clause-all_exact c = all_are_exact
