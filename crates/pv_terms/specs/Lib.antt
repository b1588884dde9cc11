-- what public clauses cite
pub mod Forms
pub mod Pushed
pub mod Given
pub mod Correct
