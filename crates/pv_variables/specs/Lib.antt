-- what public clauses cite
pub mod Origins
pub mod Variables
pub mod Begun
pub mod Numbered
pub mod Listed
pub mod Correct
