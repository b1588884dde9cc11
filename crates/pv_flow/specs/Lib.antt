-- what public clauses cite
pub mod Terms
pub mod Automata
pub mod Faults
pub mod WellMade
pub mod Runs
pub mod Calls
pub mod Fitting
pub mod Machines
pub mod CallMachines
pub mod Walks
pub mod Correct
pub mod View
pub mod Tables
pub mod AutomatonView
pub mod MachineView
pub mod Kept
-- what the code computes of them
pub mod Checks
pub mod Windows
