pub mod Logs
pub mod Reading
pub mod Sections
pub mod Spelling
