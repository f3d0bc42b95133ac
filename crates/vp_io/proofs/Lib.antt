pub mod Moved
pub mod PutSoFar
pub mod Puts_laws
pub mod Waiting
