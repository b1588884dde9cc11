pub mod Lines
pub mod Judged
pub mod One
pub mod Verdict
pub mod ForCallers
