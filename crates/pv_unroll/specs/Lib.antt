-- what public clauses cite
pub mod Counts
-- what private ones cite
pub mod Endings
pub mod Chains
pub mod Sizing
pub mod Turning
pub mod Leading
pub mod Laying
pub mod Walking
pub mod Tables
pub mod Seen
pub mod Known
pub mod Correct
