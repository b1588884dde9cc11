pub mod LineText
pub mod Reading
pub mod Propagation
pub mod Follows
pub mod Newness
pub mod Assignment
pub mod Filing
pub mod Checking
