-- what public clauses cite
pub mod Spelled
-- what private clauses cite
pub mod Growth
pub mod Pairs
pub mod Made
pub mod Handed
pub mod Sought
pub mod Given
pub mod Reached
pub mod Rows
pub mod Labels
pub mod Bodies
pub mod Faults
pub mod Led
pub mod Ready
