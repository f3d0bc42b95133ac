pub mod Places
pub mod Masking
pub mod LawfulCards
pub mod Costing
pub mod ColumnLaws
pub mod Runs
pub mod SoFar
pub mod Quiet
pub mod Telling
pub mod ReplayWords
pub mod ReplayTells
pub mod LogFiles
mod Seeking
