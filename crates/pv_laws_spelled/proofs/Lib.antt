mod Widths
mod Functions
mod Instructions
mod Few
pub mod ForCallers
