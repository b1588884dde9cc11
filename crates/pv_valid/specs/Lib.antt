-- what public clauses cite
pub mod Kinds
pub mod Cases
pub mod Shown
pub mod Starts
pub mod Claims
pub mod Validity
pub mod Walk
pub mod Faults
pub mod Saying
pub mod Deciding
