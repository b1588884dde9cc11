pub mod Classes
pub mod Shapes
pub mod Values
pub mod Tokens
pub mod Scans
pub mod Lines
