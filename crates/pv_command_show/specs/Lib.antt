-- what public clauses cite, from the bottom up
pub mod Texts
pub mod Shows
-- what private clauses cite
pub mod Steps
pub mod Handed
