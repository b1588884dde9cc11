pub mod Frames
pub mod Formulas
pub mod Values
pub mod Pushing
pub mod Short
pub mod Queries
pub mod Tables
pub mod Runs
