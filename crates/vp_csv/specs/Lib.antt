pub mod Records
pub mod Fields
pub mod Rules
pub mod Sessions
pub mod Kept
pub mod Left
pub mod Spelling
pub mod Naming
