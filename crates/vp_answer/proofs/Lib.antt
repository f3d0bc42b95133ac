pub mod Ends
pub mod Closing
pub mod SomeAnswers
pub mod Firsts
