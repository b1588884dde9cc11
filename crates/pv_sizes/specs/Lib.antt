-- what public clauses cite
pub mod Checks
pub mod Sizes
pub mod InstructionChecks
pub mod Counts
pub mod Automata
pub mod Limits
-- what only private clauses cite
pub mod Steps
