pub mod Entry
pub mod Taking
pub mod Known
pub mod ForCallers
