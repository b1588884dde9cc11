use Rattle.pv_bits.proofs.SumOverflow.{difference_overflow_words}
use Rattle.pv_bits.proofs.laws.difference_overflow_is_past_the_type.Goals as goal

pub returns : goal.returns
returns c = λ inputs nodes a b v u net p q. difference_overflow_words net p q
