-- what public clauses cite
pub mod Traps
pub mod Rooms
pub mod Operators
pub mod Operands
pub mod Nodes
pub mod Order
pub mod OneProof
pub mod Means
pub mod Writes
pub mod Ops
pub mod Lowered
pub mod Ready
