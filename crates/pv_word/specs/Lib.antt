pub mod Bits
pub mod Division
pub mod Quotients
pub mod Range
pub mod Types
pub mod Wrap
