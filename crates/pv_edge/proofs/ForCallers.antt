-- What this crate offers to proofs above.
pub use Rattle.pv_edge.proofs.Taking.{less-part}
