pub mod Words
pub mod First
