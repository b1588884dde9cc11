mod Ends
pub mod Words
pub mod Faults
pub mod Shades
pub mod Judging
pub mod Names
pub mod ForCallers
