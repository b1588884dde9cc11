-- what public clauses cite
pub mod Kinds
pub mod Answers
pub mod Readable
-- what private clauses cite
pub mod Making
pub mod InContext
pub mod Naming
