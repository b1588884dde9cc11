pub mod Copies
pub mod Places
pub mod Unrolled
pub mod Correct
