-- what public clauses cite
pub mod NoInstructions
-- what only private clauses cite
pub mod Codes
pub mod Found
pub mod Outputs
pub mod Reads
pub mod Statements
pub mod Values
