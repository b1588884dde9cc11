-- what public clauses cite
pub mod OwnNames
pub mod SclGrammar
pub mod Answers
-- what private ones cite
pub mod OwnBodies
pub mod SclActions
