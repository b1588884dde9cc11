-- What this crate offers to proofs above.
pub use Rattle.pv_log.proofs.Literals.{double-push, double-front, double-complement, alone-last, false-push, outside-push, outside-front, outside-last, inside-bounds, length-le-variables}
pub use Rattle.pv_log.proofs.FindLaws.{slice_get-left, slice_get-all, named-at}
pub use Rattle.pv_log.proofs.LeftLaws.{complement-inside, complement-complement}
pub use Rattle.pv_log.proofs.Spelled.{one-line, text-writable}
pub use Rattle.pv_log.proofs.Sound.{accepted-refutes}
pub use Rattle.pv_log.proofs.FollowLaws.{faultless-follows, follows-faultless, follows-not-fails, fails-once}
pub use Rattle.pv_log.proofs.Counting.{new-lines-few}
pub use Rattle.pv_log.proofs.Short.{few-lits, few-hints}
pub use Rattle.pv_log.proofs.NewLaws.{each-follows, faultless-new, new-faultless}
