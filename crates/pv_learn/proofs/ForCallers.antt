-- What this crate offers to proofs above.
pub use Rattle.pv_learn.proofs.Counts.{count-lits, all-inside, no-lits}
pub use Rattle.pv_learn.proofs.Rooms.{room-self, room-kept}
