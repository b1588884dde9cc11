use Rattle.pv_bits.proofs.WordLaws.{equal_words}
use Rattle.pv_bits.proofs.laws.equal_is_equality.Goals as goal

pub returns : goal.returns
returns c = λ inputs nodes a b v u net p q. equal_words net p q
