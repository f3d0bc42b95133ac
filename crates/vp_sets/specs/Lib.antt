pub mod Sets
pub mod Draws
pub mod Subsets
pub mod Index
