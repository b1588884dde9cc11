-- What proofs of crates above cite.
pub use Rattle.pv_laws_starts.proofs.Tables.{table_starts, source_has_starts, fitting_has_starts}
pub use Rattle.pv_laws_starts.proofs.Bindings.{view_binds}
