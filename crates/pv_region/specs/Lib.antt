pub mod Stored
pub mod Links
pub mod Layout
pub mod Writes
