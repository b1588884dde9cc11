pub mod Parts
pub mod Areas
pub mod Leaving
pub mod Naming
pub mod Places
