use Rattle.pv_trace.proofs.Reading.{one-fault}
use Rattle.pv_trace.proofs.laws.text_has_one_fault.Goals as goal

pub returns : goal.returns
returns c = one-fault
