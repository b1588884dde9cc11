-- What proofs of crates above cite.
pub use Rattle.pv_frames.proofs.RunValues.{run-meets}
pub use Rattle.pv_frames.proofs.RunsHold.{run-holds}
