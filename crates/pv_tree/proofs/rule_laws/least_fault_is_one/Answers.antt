use Rattle.pv_tree.proofs.Leasts.{fault-is-one, no-fault-keeps, kept-no-fault}
use Rattle.pv_tree.proofs.rule_laws.least_fault_is_one.Goals as goal

pub returns : goal.returns
returns c = record { one = fault-is-one; none = λ project. (no-fault-keeps project, kept-no-fault project) }
