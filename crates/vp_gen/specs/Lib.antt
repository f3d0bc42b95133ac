pub mod Generator
pub mod Promises
pub mod Play
pub mod PlayTells
