-- What proofs of crates above cite.
pub use Rattle.pv_terms.proofs.Pushing.{keeps, grows_then, puts_then}
