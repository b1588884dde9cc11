pub mod Subjects
pub mod Working
pub mod Stages
pub mod Joining
pub mod OneFirst
pub mod Staying
pub mod ForCallers
