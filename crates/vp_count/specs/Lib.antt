pub mod Sums
pub mod Table
pub mod HeldMasks
pub mod Laws
pub mod Runs
