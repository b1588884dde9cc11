mod Examples
pub mod Exits
mod Lines
mod LineLaws
pub mod Located
pub mod CaseTexts
pub mod EntryLaws
mod ProjectLaws
mod TableLaws
mod FitLaws
pub mod SubjectLaws
pub mod Unread
mod AsciiLaws
mod SourceLaws
mod FewBlocks
mod Gathering
mod CaseLaws
pub mod OneCase
pub mod OneSource
pub mod OneSubject
pub mod OneReading
pub mod Sourced
pub mod Texts
pub mod ForCallers
