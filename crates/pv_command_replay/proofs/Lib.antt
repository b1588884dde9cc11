mod Examples
pub mod OneEnd
pub mod Ending
pub mod Places
pub mod Located
pub mod Starts
pub mod Runs
pub mod TraceLaws
pub mod Saying
pub mod Exactly
pub mod Unread
pub mod ForCallers
