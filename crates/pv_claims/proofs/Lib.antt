pub mod LineLaws
pub mod WordLaws
pub mod PartLaws
pub mod NumberLaws
pub mod ValueLaws
pub mod HeadLaws
pub mod TraceLaws
pub mod ForCallers
