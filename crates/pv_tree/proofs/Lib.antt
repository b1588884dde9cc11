mod AddressLaws
mod KeptRules
pub mod NamedTypes
mod ToldCalls
pub mod Seen
pub mod StmtSeen
pub mod ForCallers
pub mod Firsts
pub mod Orders
pub mod Levels
pub mod Types
mod BlockOrders
mod BlockLevels
mod PartTypes
mod ToldThings
mod NoneBroken
mod Upwards
mod KeptBlocks
mod TypedBlocks
mod TypedProjects
mod TypedPatterns
pub mod Outsides
pub mod Deepest
pub mod Leasts
pub mod Faults
pub mod CalledBlocks
mod Examples
mod Sample
