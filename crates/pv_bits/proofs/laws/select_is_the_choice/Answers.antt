use Rattle.pv_bits.proofs.WordLaws.{select_words}
use Rattle.pv_bits.proofs.laws.select_is_the_choice.Goals as goal

pub returns : goal.returns
returns c = λ inputs nodes s z a b v u net h p q. select_words net h p q
