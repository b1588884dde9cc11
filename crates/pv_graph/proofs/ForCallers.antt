-- What proofs of the crates above take from here.
pub use Rattle.pv_graph.proofs.Members.{has_behind, has_either, has_front}
pub use Rattle.pv_graph.proofs.Searching.{of_some, some_of}
