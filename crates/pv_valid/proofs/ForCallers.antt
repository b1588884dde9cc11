-- What proofs of crates above cite.
pub use Rattle.pv_valid.proofs.Lists.{all-push, bases-asked}
pub use Rattle.pv_valid.proofs.Logs.{follows-clear, accepted-refuting}
pub use Rattle.pv_valid.proofs.Traces.{between-are, are-between}
pub use Rattle.pv_valid.proofs.Contents.{right-none, belongs-is}
pub use Rattle.pv_valid.proofs.Sums.{past-sum, within-sum}
pub use Rattle.pv_valid.proofs.Endings.{behind-done}
pub use Rattle.pv_valid.proofs.Oracles.{on-way}
pub use Rattle.pv_valid.proofs.Decided.{right-of}
