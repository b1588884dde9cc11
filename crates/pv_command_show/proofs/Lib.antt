pub mod Cells
pub mod Telling
pub mod Showing
pub mod Exactly
pub mod ForCallers
