use Rattle.pv_pattern.proofs.States.{ends_alike}
use Rattle.pv_pattern.proofs.laws.others_ask_for_no_mark.Goals as goal

pub returns : goal.returns
returns c = ends_alike
