-- What this crate offers to proofs above.
pub use Rattle.pv_watch.proofs.Places.{Rise-front}
pub use Rattle.pv_watch.proofs.Paths.{below-all, all-push, kept-starts, leads-from}
pub use Rattle.pv_watch.proofs.Lefts.{Within, false-append, left-in, left-out, left-within, falsified-nil, unit-is, unit-when, quiet-one, quiet-not-nil, true-quiet, second-quiet, left-more-in, left-more-out, nil-falsified, First, first-of}
pub use Rattle.pv_watch.proofs.Clauses.{not-both, own-inside}
