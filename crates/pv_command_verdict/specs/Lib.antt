-- what public clauses cite, from the bottom up
pub mod Sizes
pub mod Cases
pub mod Sayings
pub mod Bounds
pub mod Verdicts
pub mod Correct
-- what is made, by the code's types
pub mod Made
pub mod Handed
