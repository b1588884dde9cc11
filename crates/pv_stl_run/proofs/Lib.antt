mod Triedness
pub mod RunLaws
mod RowLaws
mod StepLaws
mod JumpLaws
mod EffectLaws
pub mod TurnLaws
mod Moves
mod Goes
pub mod AtWork
mod Nestings
mod NumberLaws
