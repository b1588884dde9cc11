use Rattle.pv_bits.proofs.WordLaws.{difference_words}
use Rattle.pv_bits.proofs.laws.subtract_is_the_difference.Goals as goal

pub returns : goal.returns
returns c = λ inputs nodes a b v u net p q. difference_words net p q
