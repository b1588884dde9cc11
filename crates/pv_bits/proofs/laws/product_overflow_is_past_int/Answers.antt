use Rattle.pv_bits.proofs.ProductOverflow.{product_overflow_words, int_product_overflow_words}
use Rattle.pv_bits.proofs.laws.product_overflow_is_past_int.Goals as goal

pub returns : goal.returns
returns c = record {
  wrapped = λ inputs nodes a b v u net p q. product_overflow_words net p q;
  of_int = λ inputs nodes a b v u net p q. int_product_overflow_words net p q;
}
