use Rattle.pv_laws_room.proofs.Bodied.{body_fits}
use Rattle.pv_laws_room.proofs.laws.bodies_fit.Goals as goal

pub returns : goal.returns
returns c = λ project block keeps there short. body_fits project keeps block there short
