pub mod Parts
pub mod Chains
pub mod Laid
pub mod Reading
pub mod Linking
pub mod Seen
pub mod Blocks
pub mod ForCallers
