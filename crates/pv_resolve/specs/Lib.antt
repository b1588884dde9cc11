-- what public clauses cite
pub mod Firsts
pub mod Contexts
pub mod Laying
pub mod Begins
pub mod Rooms
-- what only private clauses cite
pub mod Growing
pub mod Kinds
pub mod Functions
pub mod Walks
