pub mod One
pub mod Stopping
pub mod Deciding
pub mod Writing
pub mod Unread
pub mod Exactly
pub mod ForCallers
