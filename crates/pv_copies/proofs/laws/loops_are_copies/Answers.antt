use Rattle.pv_copies.proofs.Turning.{loops_are_copies}
use Rattle.pv_copies.proofs.laws.loops_are_copies.Goals as goal

pub returns : goal.returns
returns c = λ p n steps w f well. loops_are_copies p n f well steps w
