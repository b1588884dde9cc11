mod LeastOne
mod Misplaced
mod NearShared
mod NearLists
mod Sharing
pub mod Doubling
pub mod Entering
pub mod FirstLaws
pub mod NearPieces
pub mod NearStarts
pub mod PartsAppended
pub mod PatternBreaches
pub mod ProjectFirst
pub mod Projecting
pub mod TypeCycles
