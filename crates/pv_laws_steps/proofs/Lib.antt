pub mod Jumping
pub mod Labels
pub mod Running
pub mod Kept
