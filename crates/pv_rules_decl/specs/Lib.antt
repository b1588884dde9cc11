-- what public clauses cite
pub mod Names
pub mod Least
pub mod Patterns
pub mod Answers
pub mod StartLook
pub mod StartPieces
pub mod ValueNears
-- what only private clauses cite
pub mod BlockLists
pub mod Declarations
pub mod Doubles
pub mod OnDeclarations
pub mod Starts
pub mod TypeNames
pub mod TypeNumbers
