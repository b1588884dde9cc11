pub mod Circuits
pub mod Made
pub mod Starts
pub mod Steps
