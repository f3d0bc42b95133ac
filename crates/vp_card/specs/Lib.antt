pub mod Cards
pub mod Reading
pub mod Texts
pub mod Rising
