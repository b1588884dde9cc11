-- What proofs of crates above cite.
pub use Rattle.pv_word.proofs.Congruence.{congruent-refl, congruent-sum, congruent-difference, congruent-product, congruent-trans, congruent-from_parts}
pub use Rattle.pv_word.proofs.TypeLaws.{wide}
pub use Rattle.pv_word.proofs.WrapLaws.{double, zero-in_range, wrap-own, wrap-in_range, wrap-congruent, wrap-congruent_same}
pub use Rattle.pv_word.proofs.BitLaws.{pattern-lt, pattern-pos, pattern-wrap, pattern-congruent, pattern-congruent_same, in_range-pattern_same}
pub use Rattle.pv_word.proofs.PatternLaws.{pattern-not_negative, pattern-negative}
