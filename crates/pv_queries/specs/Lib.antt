pub mod Built
pub mod Numbers
pub mod Meeting
pub mod Lawful
