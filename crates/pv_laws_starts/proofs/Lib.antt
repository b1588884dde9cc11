pub mod Declared
pub mod Placing
pub mod Telling
pub mod Beginning
pub mod DataBlocks
pub mod Bindings
pub mod Tables
pub mod ForCallers
