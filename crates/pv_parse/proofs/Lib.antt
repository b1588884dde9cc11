mod LookUps
mod KindSteps
mod CaseBlind
mod KindCases
mod KindSpelled
mod KindNames
mod KindOf
mod KindPairs
pub mod NumberLaws
pub mod FunctionTables
pub mod Taking
pub mod Idle
pub mod Merging
pub mod LevelLaws
pub mod Popped
pub mod Marks
pub mod ExprMarks
pub mod Following
pub mod ExprFollows
pub mod Sure
pub mod Stacks
pub mod CodeSorts
pub mod DeclSorts
pub mod InstrSorts
pub mod Sorts
pub mod Forms
pub mod FunctionTexts
pub mod OperatorTexts
pub mod TokenFacts
pub mod ChainLaws
pub mod ExprLaws
pub mod TokenKinds
pub mod Gets
pub mod ChainRuns
pub mod ExprRuns
pub mod FunctionRuns
pub mod Complete
pub mod CodeShapes
pub mod DeclShapes
pub mod InstrShapes
pub mod Shapes
pub mod ExprSound
pub mod Closed
pub mod Readings
pub mod Shading
mod Sound
mod Witnesses
pub mod ForCallers
mod RoleLaws
