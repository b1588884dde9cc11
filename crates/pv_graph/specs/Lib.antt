-- what public clauses cite
pub mod Members
pub mod Graphs
pub mod Steps
pub mod Rounds
pub mod Cycles
-- what only private clauses cite
pub mod Searches
pub mod Arounds
