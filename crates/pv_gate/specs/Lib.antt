pub mod Node
pub mod Value
pub mod Netlist
pub mod Build
pub mod Building
pub mod Index
pub mod Given
