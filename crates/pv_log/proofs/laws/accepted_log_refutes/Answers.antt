use Rattle.pv_log.proofs.Sound.{accepted-refutes}
use Rattle.pv_log.proofs.laws.accepted_log_refutes.Goals as goal

pub returns : goal.returns
returns c = λ variables clauses lines values accepted holds. accepted-refutes values variables clauses lines accepted.each accepted.ends holds
