mod StmtTrees
pub mod PathLaws
pub mod ArgLaws
pub mod SingleTexts
pub mod TailRuns
pub mod ArgRuns
pub mod ForCallers
