pub mod Fit
pub mod Agrees
pub mod Below
pub mod Correct
pub mod Patterns
