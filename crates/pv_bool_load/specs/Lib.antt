-- what public clauses cite, from the bottom up
pub mod Forms
pub mod Refusals
pub mod Stops
-- what laws say
pub mod Correct
-- what the code makes
pub mod Made
pub mod Handed
