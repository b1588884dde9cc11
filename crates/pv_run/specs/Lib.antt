-- what public clauses cite
pub mod Code
pub mod Ends
pub mod Handing
-- what private clauses cite
pub mod Choosing
pub mod Turns
pub mod Runs
