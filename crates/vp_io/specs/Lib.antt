pub mod Causes
pub mod Streams
pub mod Memory
pub mod Puts
pub mod Blocks
