-- What proofs of crates above cite.
pub use Rattle.pv_pattern.proofs.States.{ends_alike, left_is, lawful}
pub use Rattle.pv_pattern.proofs.Runs.{runs_to, runs_from, first_fails, fails_first}
pub use Rattle.pv_pattern.proofs.Unread.{located_same}
