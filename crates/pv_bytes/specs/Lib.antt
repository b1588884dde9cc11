-- what public clauses cite
pub mod NamedBytes
pub mod Lent
pub mod Statements
-- what private ones do
pub mod Numbers
pub mod Operands
