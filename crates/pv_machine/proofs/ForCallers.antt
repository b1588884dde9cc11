-- What proofs of crates above cite.
pub use Rattle.pv_machine.proofs.Induction.{step_zero, no_base, step_of_reachable, none_fails}
pub use Rattle.pv_machine.proofs.Same.{same_itself, same_on, lawful_too, same_base, same_step, same_reachable, same_runs}
