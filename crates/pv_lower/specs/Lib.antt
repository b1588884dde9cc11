-- what public clauses cite
pub mod Storages
pub mod Lowered
pub mod Lowering
-- what a fault below is told as
pub mod Faults
