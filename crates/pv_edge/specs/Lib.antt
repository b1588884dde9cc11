pub mod Faults
pub mod Calls
pub mod Files
pub mod Entries
pub mod Sink
pub mod Held
