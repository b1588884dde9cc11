pub mod Countdowns
pub mod Toys
pub mod Sound
