pub mod Adding
mod Examples
pub mod Instructing
pub mod Measures
pub mod SizeLaws
