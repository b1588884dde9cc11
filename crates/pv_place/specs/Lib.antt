pub mod Roles
pub mod Ranges
