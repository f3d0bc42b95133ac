pub mod CommandWords
pub mod FewWords
