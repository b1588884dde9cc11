-- What proofs of crates above cite: the circuits are buildings, so that made once they are found again, and what they make of words.
pub use Rattle.pv_bits.proofs.Buildings.{building_equal, building_less, building_select, building_adder, building_subtract, building_negate, building_multiply, building_divide, building_sum_overflow, building_difference_overflow, building_product_overflow}
pub use Rattle.pv_bits.proofs.WordLaws.{word_more, equal_words, less_words, select_words, sum_words, difference_words, product_words, left_words, right_words}
pub use Rattle.pv_bits.proofs.SignedDivision.{divide_words}
pub use Rattle.pv_bits.proofs.SumOverflow.{sum_overflow_words, difference_overflow_words}
pub use Rattle.pv_bits.proofs.ProductOverflow.{product_overflow_words, int_product_overflow_words}
