pub mod Doubles
pub mod Elements
pub mod Parts
pub mod Text
