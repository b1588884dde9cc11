-- what public clauses cite, from the bottom up
pub mod Words
pub mod Outcomes
pub mod Calls
pub mod Checks
pub mod Rechecks
pub mod Promises
pub mod Kept
-- what private clauses cite
pub mod Printing
