-- what public clauses cite
pub mod TraceText
-- what private clauses cite
pub mod Words
pub mod Scans
