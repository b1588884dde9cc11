-- what public clauses cite, from the bottom up
pub mod Ends
pub mod Reports
pub mod Traces
pub mod Located
pub mod Replays
-- what laws say
pub mod Correct
-- what private clauses cite
pub mod Judged
pub mod Passing
pub mod Handed
