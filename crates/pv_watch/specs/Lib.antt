pub mod Trail
pub mod Quiet
pub mod Watched
pub mod Turns
pub mod Propagating
