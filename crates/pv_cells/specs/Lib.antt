-- what private clauses cite
pub mod Forms
pub mod Planned
pub mod Starts
pub mod Below
pub mod Graphs
pub mod Drawn
pub mod Calls
pub mod Answered
pub mod Named
