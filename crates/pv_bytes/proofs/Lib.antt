pub mod Marking
pub mod Rising
pub mod Reading
pub mod Listing
pub mod Gathering
