-- what public clauses cite, from the bottom up
pub mod Refusals
pub mod Checks
pub mod Files
pub mod Decided
-- what private clauses cite
pub mod Made
pub mod Handed
