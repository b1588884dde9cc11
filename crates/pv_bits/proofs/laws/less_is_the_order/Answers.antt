use Rattle.pv_bits.proofs.WordLaws.{less_words}
use Rattle.pv_bits.proofs.laws.less_is_the_order.Goals as goal

pub returns : goal.returns
returns c = λ inputs nodes a b v u net p q. less_words net p q
