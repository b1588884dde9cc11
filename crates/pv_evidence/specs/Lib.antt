-- what public clauses cite
pub mod Correct
pub mod Reported
-- what private clauses cite
pub mod Endings
