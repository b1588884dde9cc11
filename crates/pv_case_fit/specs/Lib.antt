-- what public clauses cite
pub mod Entries
pub mod Inputs
-- what private clauses cite
pub mod Named
