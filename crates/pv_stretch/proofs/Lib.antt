pub mod Stretching
pub mod Queries
pub mod Scanning
pub mod ForCallers
