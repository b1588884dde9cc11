pub mod ForCallers
mod LookUps
mod Stack
pub mod Trees
pub mod Words
mod Walking
mod Elements
pub mod Counting
pub mod Starting
pub mod Grounded
mod Indexes
pub mod Differing
mod Passing
mod Searching
