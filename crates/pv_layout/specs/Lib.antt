pub mod Spots
pub mod Flows
pub mod Layout
pub mod SpotRuns
pub mod Bodies
pub mod Sound
pub mod Correct
