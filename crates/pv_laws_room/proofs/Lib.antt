mod Fitting
mod Bodied
mod Reaching
mod Roomy
pub mod ForCallers
