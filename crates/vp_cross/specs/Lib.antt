pub mod Crossings
pub mod Later
pub mod Laws
pub mod Cross
pub mod CrossTells
