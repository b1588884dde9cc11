-- which cases and projects are of the form
pub mod Forms
-- the program that is made
pub mod Programs
-- what is run
pub mod Sources
