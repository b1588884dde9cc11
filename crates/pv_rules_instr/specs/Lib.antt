-- what public clauses cite
pub mod Sites
-- what only private clauses cite
pub mod AtLabels
pub mod AtNestings
pub mod AtOperands
pub mod AtRanges
pub mod Groups
pub mod Ranges
pub mod Stacks
