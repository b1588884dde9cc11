pub mod Refinements
pub mod Oracles
pub mod Decisions
pub mod Asking
