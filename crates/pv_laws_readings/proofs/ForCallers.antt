-- What proofs of the crates above take from here.
pub use Rattle.pv_laws_readings.proofs.Ends.{inner_same}
