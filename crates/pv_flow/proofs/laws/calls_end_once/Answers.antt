use Rattle.pv_flow.proofs.CallEnds.{comes_to_one}
use Rattle.pv_flow.proofs.laws.calls_end_once.Goals as goal

pub returns : goal.returns
returns c = comes_to_one
