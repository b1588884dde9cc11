-- what private clauses cite
pub mod Entries
pub mod Fronts
