pub mod Machines
pub mod Queries
pub mod Same
pub mod Reductions
pub mod Replays
pub mod Joining
