pub mod States
pub mod Runs
pub mod Unread
pub mod Judging
mod High
pub mod ForCallers
