use Rattle.pv_flow.proofs.Beside.{entry_is_placed, callee_is_placed}
use Rattle.pv_flow.proofs.laws.works_are_placed.Goals as goal

pub returns : goal.returns
returns c = record { entry = entry_is_placed; callee = callee_is_placed }
