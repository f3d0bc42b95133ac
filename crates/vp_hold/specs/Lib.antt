pub mod Means
pub mod Games
pub mod Numbers
