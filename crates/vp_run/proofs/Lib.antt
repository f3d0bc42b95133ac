pub mod NoCommand
pub mod GivenWords
pub mod CommandLaws
