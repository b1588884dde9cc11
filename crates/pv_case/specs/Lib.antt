-- what public clauses cite
pub mod Checks
pub mod Members
pub mod Patterns
pub mod Symbols
pub mod Fields
pub mod Cases
-- what private clauses cite
pub mod Viewed
pub mod Least
pub mod Makes
pub mod SymbolLists
pub mod Addresses
pub mod Exact
