use Rattle.pv_word.proofs.BitLaws.{wrap-complement}
use Rattle.pv_word.proofs.laws.complement_and_one.Goals as goal

pub returns : goal.returns
returns c = wrap-complement c.args.ty
