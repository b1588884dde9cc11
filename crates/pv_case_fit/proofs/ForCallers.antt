-- What proofs of the crates above take from here.
-- a name that may stand alone is an expression
pub use Rattle.pv_case_fit.proofs.NameLaws.{Alone, name_expression}
