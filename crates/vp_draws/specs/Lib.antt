pub mod Choices
pub mod Draws
pub mod Laws
pub mod ByLine
pub mod Many
