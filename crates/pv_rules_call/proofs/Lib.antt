pub mod CallGraph
pub mod Gathering
pub mod Linking
pub mod ForCallers
