-- What proofs of crates above cite.
pub use Rattle.pv_report.proofs.Positions.{at_offset}
pub use Rattle.pv_report.proofs.Determined.{one_verdict}
