pub mod ForCallers
pub mod Small
pub mod Lying
pub mod Copied
pub mod DeedLaws
pub mod ResetLaws
