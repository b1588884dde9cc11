-- what public clauses cite
pub mod Links
-- what only private clauses cite
pub mod ByNumber
pub mod Gathered
