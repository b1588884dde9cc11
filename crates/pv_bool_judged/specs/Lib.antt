pub mod Bounds
pub mod Settings
pub mod Formulas
pub mod Placing
pub mod Cases
pub mod Sound
