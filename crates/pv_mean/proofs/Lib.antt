mod Samples
mod Examples
mod MoreExamples
mod StepWords
mod BitRows
mod WordRows
mod StlExamples
pub mod Holding
pub mod Instructing
pub mod VisibleCells
pub mod Images
pub mod Runs
pub mod Passing
pub mod Capping
pub mod Visits
mod SharedVisits
pub mod Searches
pub mod Countings
pub mod TypeTables
pub mod NamedBlocks
pub mod DataStarts
pub mod LaidVariables
pub mod Fuel
pub mod InstructionLaws
pub mod NeverUnset
pub mod Steps
pub mod Divisions
pub mod Copies
pub mod CalledBlocks
pub mod Tables
pub mod Changes
pub mod VisibleParts
pub mod ForCallers
