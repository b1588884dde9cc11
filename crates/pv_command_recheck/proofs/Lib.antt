pub mod Stopping
pub mod Reading
pub mod Answering
pub mod Judging
pub mod Reporting
pub mod Unread
pub mod OneRecheck
pub mod Exactly
pub mod ForCallers
mod Examples
