pub mod Asked
pub mod Sums
pub mod Apart
pub mod Pairs
pub mod Copied
