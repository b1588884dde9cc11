pub mod Steps
pub mod Sums
pub mod Logs
pub mod Joining
pub mod Answers
