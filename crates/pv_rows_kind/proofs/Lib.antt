pub mod Pushing
pub mod Told
