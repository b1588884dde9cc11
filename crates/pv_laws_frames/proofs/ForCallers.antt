-- What proofs of crates above cite.
pub use Rattle.pv_laws_frames.proofs.Denoting.{number-few, bits-denote, denote-same}
pub use Rattle.pv_laws_frames.proofs.MachineRuns.{base-stands, step-stands, base-satisfied, step-satisfied, are-state, state-behind}
