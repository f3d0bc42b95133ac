pub mod Images
pub mod Turns
pub mod Classes
pub mod Heaps
pub mod Laws
