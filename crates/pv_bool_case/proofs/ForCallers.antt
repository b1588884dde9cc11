-- What proofs of crates above cite.
pub use Rattle.pv_bool_case.proofs.Scopes.{same_scope, in_scope}
pub use Rattle.pv_bool_case.proofs.OneBlock.{OneReading, only_entered, of_one_block}
