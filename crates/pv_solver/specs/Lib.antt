pub mod Costs
pub mod Lemmas
pub mod Quiet
pub mod Logged
pub mod Answers
pub mod Search
pub mod States
