-- What proofs of the crates above take from here.
-- the table of SCL reads sources and expressions: its derivations make their trees
pub use Rattle.pv_scl_parse.proofs.SclReads.{scl_reads}
pub use Rattle.pv_scl_parse.proofs.Starts.{reads_expressions}
