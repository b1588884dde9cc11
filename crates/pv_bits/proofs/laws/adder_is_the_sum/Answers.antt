use Rattle.pv_bits.proofs.WordLaws.{sum_words}
use Rattle.pv_bits.proofs.laws.adder_is_the_sum.Goals as goal

pub returns : goal.returns
returns c = λ inputs nodes l z a b v u net r p q. sum_words net p q r
