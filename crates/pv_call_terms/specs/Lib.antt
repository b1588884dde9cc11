-- what public clauses cite
pub mod Numbers
pub mod Places
pub mod Terms
pub mod Deeds
pub mod Resets
pub mod Correct
