-- what public clauses cite
pub mod Patterns
pub mod Reads
pub mod Texts
pub mod Failing
pub mod Sources
pub mod Terms
pub mod Found
