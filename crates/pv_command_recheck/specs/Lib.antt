-- what public clauses cite, from the bottom up
pub mod Certificates
pub mod Refusals
pub mod Rechecks
pub mod Decided
-- what private clauses cite
pub mod Made
