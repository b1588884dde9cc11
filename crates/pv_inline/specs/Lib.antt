-- what public clauses cite
pub mod Numbers
pub mod Blocks
pub mod Correct
pub mod Variables
pub mod Inlining
-- what the code computes
pub mod Counts
pub mod Tables
pub mod Walking
pub mod Short
pub mod Seen
-- what is so of it
pub mod Reading
pub mod Copies
