pub mod ForCallers
pub mod Induction
pub mod Same
pub mod Reducing
pub mod Examples
