pub mod Literal
pub mod Clause
pub mod Dimacs
pub mod Layout
pub mod Fault
