-- What proofs of the crates above take from here.
pub use Rattle.pv_names.proofs.FirstNumbers.{grown}
pub use Rattle.pv_names.proofs.Functions.{misfits_alone, misfits_beside, misfits_taken}
pub use Rattle.pv_names.proofs.LiteralSorts.{literal_told, unary_made}
pub use Rattle.pv_names.proofs.Parameters.{for_none, for_some}
pub use Rattle.pv_names.proofs.Steps.{IsOn, on_start, on_step, on_end, rest_step, sorts_mapped}
pub use Rattle.pv_names.proofs.UniqueNames.{first_of_its_name}
