use Rattle.pv_flow.proofs.Steps.{one_end}
use Rattle.pv_flow.specs.Runs.{control_of, first_spot}
use Rattle.pv_flow.proofs.laws.runs_end_once.Goals as goal

pub returns : goal.returns
returns c = λ p n steps others w a b e f. one_end (control_of p n) steps others (first_spot p) w a b e f
