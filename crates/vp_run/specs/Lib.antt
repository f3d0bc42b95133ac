pub mod Answer
pub mod SomeText
pub mod Memory
pub mod Arguments
pub mod CommandLaws
