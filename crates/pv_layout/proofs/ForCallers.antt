-- What proofs of crates above cite.
pub use Rattle.pv_layout.proofs.Guards.{IsBit, true_is, holds_both, on_both, on_negated, spots_choose, one_edge}
pub use Rattle.pv_layout.proofs.Rounds.{reach_then, reach_from, reach_to}
pub use Rattle.pv_layout.proofs.FlowRuns.{flow_acts}
pub use Rattle.pv_layout.proofs.Laying.{length_spots}
pub use Rattle.pv_layout.proofs.Whole.{whole_reaches}
pub use Rattle.pv_layout.proofs.PartRuns.{parts_run}
pub use Rattle.pv_layout.proofs.BlockRuns.{blocks_run}
pub use Rattle.pv_layout.proofs.Counted.{edges_are_counted}
pub use Rattle.pv_layout.proofs.Each.{EachFrom, each_append, each_map, each_with, each_index, each_by}
pub use Rattle.pv_layout.proofs.Leads.{way_map, IsWayIn, IsSpotIn, IsLoopIn}
pub use Rattle.pv_layout.proofs.Fits.{AllFit}
pub use Rattle.pv_layout.proofs.Led.{AreLed}
pub use Rattle.pv_layout.proofs.LoopPairs.{Pairs}
pub use Rattle.pv_layout.proofs.Legal.{texts_are_legal, flow_sound, layouts_are_legal}
