mod Pushing
mod Constants
mod Givens
mod Values
pub mod ForCallers
