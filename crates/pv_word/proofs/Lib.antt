pub mod BitLaws
pub mod Congruence
pub mod DivisionLaws
pub mod ForCallers
pub mod PatternLaws
pub mod TypeLaws
pub mod WrapLaws
