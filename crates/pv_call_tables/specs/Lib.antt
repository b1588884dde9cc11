-- what public clauses cite
pub mod Numbers
pub mod Wanted
pub mod Standings
pub mod Known
pub mod Chains
pub mod Seen
pub mod Ranks
pub mod Widths
pub mod Drawing
