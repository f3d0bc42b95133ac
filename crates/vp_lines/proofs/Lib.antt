pub mod Room
pub mod PutWords
