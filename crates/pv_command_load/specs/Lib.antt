-- what public clauses cite, from the bottom up
pub mod Held
pub mod Positions
pub mod Words
pub mod Refusals
pub mod Sources
pub mod Subjects
pub mod Reads
pub mod Stopped
pub mod Stops
pub mod Gathered
pub mod ReadTexts
-- what the stages make, by the code's types
pub mod Made
-- what laws will say
pub mod Correct
-- what private clauses cite
pub mod Faults
pub mod Passing
