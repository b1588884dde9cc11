-- what public clauses cite
pub mod Roles
pub mod Tree
pub mod Programs
pub mod Scans
pub mod Machine
pub mod Correct
