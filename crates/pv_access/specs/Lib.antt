-- what public clauses cite
pub mod Accesses
pub mod Pushed
pub mod Given
pub mod Correct
