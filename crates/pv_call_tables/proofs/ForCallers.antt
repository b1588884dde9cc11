-- What proofs of crates above cite.
pub use Rattle.pv_call_tables.proofs.Locations.{standings_are, calls_are}
pub use Rattle.pv_call_tables.proofs.ChainLaws.{numbers_are}
pub use Rattle.pv_call_tables.proofs.RankLaws.{counts_are, ranks_are}
pub use Rattle.pv_call_tables.proofs.SumLaws.{sums_are, summed_alike}
pub use Rattle.pv_call_tables.proofs.DrawLaws.{edges_are, traps_are, overs_are, behind_is}
pub use Rattle.pv_call_tables.proofs.Wants.{passed_on, not_beyond}
