use Rattle.pv_trace.proofs.Reading.{one-trace}
use Rattle.pv_trace.proofs.laws.text_determines_trace.Goals as goal

pub returns : goal.returns
returns c = one-trace
