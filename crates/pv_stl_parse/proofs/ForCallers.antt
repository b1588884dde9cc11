-- What proofs of the crates above take from here.
-- the table of STL reads sources: its derivations make their trees
pub use Rattle.pv_stl_parse.proofs.Whole.{stl_reads}
