-- What proofs of crates above cite.
pub use Rattle.pv_eval.proofs.RunLaws.{and_then-assoc, and_then-same, run-append, run-follows}
pub use Rattle.pv_eval.proofs.Makings.{makes-none, makes-along, makes-map, makes-then, makes-push}
