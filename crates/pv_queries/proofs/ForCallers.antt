-- What proofs of crates above cite.
pub use Rattle.pv_queries.proofs.Reading.{some-values, one-values}
pub use Rattle.pv_queries.proofs.Meets.{numbers-meet}
pub use Rattle.pv_queries.proofs.Types.{values-long, state-types, input-types}
pub use Rattle.pv_queries.proofs.Fitting.{few-nodes}
