-- What proofs of crates above take from here.
-- an expression fits where its parts do
pub use Rattle.pv_laws_room.proofs.Fitting.{contains_more, contains_front, contains_behind, literal_fits, written_fits, root_fits, read_of_parts}
