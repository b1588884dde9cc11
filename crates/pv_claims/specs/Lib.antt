-- what public clauses cite
pub mod Lines
pub mod Words
pub mod Heads
pub mod TracePart
