pub mod Walks
pub mod Copies
