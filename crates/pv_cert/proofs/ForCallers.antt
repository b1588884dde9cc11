-- What this crate offers to proofs above.
pub use Rattle.pv_cert.proofs.Texts.{feedless}
pub use Rattle.pv_cert.proofs.Chains.{without-words}
pub use Rattle.pv_cert.proofs.Wholes.{made-of-proofs, one-certificate, fails-once}
