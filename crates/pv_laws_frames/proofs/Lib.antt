pub mod Denoting
pub mod MachineRuns
pub mod ForCallers
