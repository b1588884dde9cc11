pub mod Values
pub mod Starts
pub mod Positions
pub mod Cuts
pub mod Determined
pub mod ForCallers
