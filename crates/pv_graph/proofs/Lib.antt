pub mod ForCallers
pub mod Marking
pub mod Members
pub mod RoundLaws
pub mod Searching
pub mod Spreading
pub mod Turning
