-- what public clauses cite
pub mod Circuits
pub mod Correct
pub mod Steps
-- what private clauses cite
pub mod Wiring
