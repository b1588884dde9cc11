pub mod ForCallers
mod Behind
mod Composed
mod Literals
mod Loops
mod Reaching
mod Stepping
mod Stored
mod Typing
mod Walking
