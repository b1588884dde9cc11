-- what public clauses cite
pub mod OwnNames
pub mod StlGrammar
-- what private ones cite
pub mod OwnBodies
pub mod StlActions
