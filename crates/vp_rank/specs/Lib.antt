pub mod Bounded
pub mod Counts
pub mod Shapes
pub mod Wilds
