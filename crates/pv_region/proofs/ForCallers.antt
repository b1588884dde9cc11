-- What this crate offers to proofs above.
pub use Rattle.pv_region.proofs.Chains.{watch-code, in-left, in-right, contains-in, in-contains}
pub use Rattle.pv_region.proofs.Seen.{inside-literal}
