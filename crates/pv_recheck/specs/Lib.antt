-- what public clauses cite
pub mod Form
pub mod Validity
pub mod Kinds
pub mod Faults
pub mod Answers
-- what private clauses cite
pub mod Judging
