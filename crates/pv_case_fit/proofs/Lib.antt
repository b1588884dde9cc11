mod Entering
mod Lengths
mod Listing
pub mod NameLaws
mod Numbers
mod Seen
mod Viewing
mod Walking
pub mod ForCallers
