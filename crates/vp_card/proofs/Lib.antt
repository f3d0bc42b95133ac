pub mod Hands
pub mod InDeck
pub mod Differ
pub mod RankSets
pub mod Rises
pub mod Rising
pub mod Texts
mod Tables
