pub mod Toggles
pub mod Leaving
