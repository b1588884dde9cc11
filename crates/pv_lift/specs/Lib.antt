-- what public contracts cite
pub mod Traces
pub mod Lifts
pub mod Stages
pub mod Sound
pub mod Decided
pub mod Facts
pub mod Cases
pub mod CaseSound
-- what private clauses cite
pub mod Groups
