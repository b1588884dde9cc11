use Rattle.pv_bits.proofs.SignedDivision.{divide_words}
use Rattle.pv_bits.proofs.laws.divide_is_the_division.Goals as goal

pub returns : goal.returns
returns c = λ inputs nodes a b v u net p q. divide_words net p q
