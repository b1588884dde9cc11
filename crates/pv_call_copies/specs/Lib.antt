pub mod Renaming
pub mod Nests
pub mod Levels
pub mod Inlined
pub mod Correct
