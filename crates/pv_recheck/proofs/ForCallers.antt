-- What proofs of crates above cite.
pub use Rattle.pv_recheck.proofs.Verdict.{step_meets, no_step, no_run}
pub use Rattle.pv_recheck.proofs.One.{one_answer, one_fault, valid_right, valid_built}
