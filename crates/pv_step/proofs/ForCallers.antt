-- What proofs of crates above cite.
pub use Rattle.pv_step.proofs.ScanLaws.{is_circuit, does_the_scan, have_lengths, stand_for}
pub use Rattle.pv_step.proofs.Stepping.{begin-state, long-starts, does_the_steps}
