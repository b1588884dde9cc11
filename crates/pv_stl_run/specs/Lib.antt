-- what public clauses cite
pub mod Views
pub mod Rows
pub mod Code
pub mod Going
-- what private clauses cite
pub mod Made
pub mod Deciding
pub mod Actions
