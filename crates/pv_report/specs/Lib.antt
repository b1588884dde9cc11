-- what public clauses cite
pub mod Words
pub mod Places
pub mod Reports
-- what laws say, and what is asked of places
pub mod Correct
-- what private clauses cite
pub mod Groups
