pub mod Answers
pub mod Jobs
pub mod StatusCode
pub mod Outcome
pub mod Lent
pub mod Asking
pub mod Closing
pub mod Firsts
