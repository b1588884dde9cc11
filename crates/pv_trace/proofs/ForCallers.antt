-- What proofs of crates above cite.
pub use Rattle.pv_trace.proofs.Reading.{one-trace, one-fault}
