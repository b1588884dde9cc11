-- what public clauses cite
pub mod Stretches
pub mod Scans
-- what laws say
pub mod Correct
-- what private clauses cite
pub mod Judged
