-- what public clauses cite
pub mod SourceAnswers
pub mod Parsing
