use Rattle.pv_bits.proofs.WordLaws.{product_words}
use Rattle.pv_bits.proofs.laws.multiply_is_the_product.Goals as goal

pub returns : goal.returns
returns c = λ inputs nodes a b v u net p q. product_words net p q
