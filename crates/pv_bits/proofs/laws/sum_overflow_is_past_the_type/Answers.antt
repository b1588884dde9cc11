use Rattle.pv_bits.proofs.SumOverflow.{sum_overflow_words}
use Rattle.pv_bits.proofs.laws.sum_overflow_is_past_the_type.Goals as goal

pub returns : goal.returns
returns c = λ inputs nodes a b v u net p q. sum_overflow_words net p q
