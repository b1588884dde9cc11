-- What proofs of crates above cite.
pub use Rattle.pv_lower.proofs.Literals.{literal_term, literal_lowered}
