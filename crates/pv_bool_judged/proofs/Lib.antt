pub mod Terms
pub mod Placed
pub mod Begun
pub mod Scanned
pub mod Formed
