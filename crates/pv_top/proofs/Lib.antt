pub mod WordsLemmas
pub mod Statuses
pub mod Delivery
pub mod Checks
pub mod Promised
pub mod Kept
pub mod Again
