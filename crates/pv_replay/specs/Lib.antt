-- what public clauses cite
pub mod Ends
pub mod Replays
-- what private clauses cite, but for `IsLong` and `roles_of`
pub mod Images
