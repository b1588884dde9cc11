pub mod Making
pub mod Standing
pub mod Finished
