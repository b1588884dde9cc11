pub mod Endings
pub mod Starts
pub mod SclSorts
mod Facts
mod Groups
mod SecondNames
pub mod CallLaws
pub mod BehindNames
pub mod StmtLaws
pub mod CaseLaws
pub mod StmtComplete
pub mod StmtSound
mod Serving
pub mod Got
mod NameRuns
mod CallRuns
mod TargetRuns
pub mod LabelRuns
pub mod StmtRuns
pub mod BodyLaws
pub mod BodyRuns
pub mod SclCasts
pub mod Whole
pub mod SclReads
pub mod ForCallers
