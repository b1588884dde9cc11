pub mod Reached
pub mod Bodies
