use Rattle.pv_word.proofs.BitLaws.{has_bits-unique}
use Rattle.pv_word.proofs.laws.bits_are_the_value.Goals as goal

pub returns : goal.returns
returns c = has_bits-unique c.args.ty
