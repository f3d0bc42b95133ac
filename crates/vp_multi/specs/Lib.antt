pub mod Moments
pub mod Sums
pub mod Laws
pub mod Room
pub mod Multi
pub mod MultiTells
