pub mod Counts
pub mod Rooms
pub mod Wholes
pub mod ForCallers
