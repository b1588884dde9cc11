-- cited by public contracts
pub mod FirstForm
pub mod Programs
pub mod Requirements
pub mod Correct
pub mod Machines
-- cited by private contracts alone
pub mod Numbering
pub mod Wording
