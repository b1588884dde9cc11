pub mod Scopes
pub mod OneBlock
pub mod Readings
pub mod Items
pub mod ForCallers
