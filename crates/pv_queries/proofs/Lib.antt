mod Reading
mod Meets
mod Fitting
mod Types
pub mod ForCallers
