pub mod Alike
pub mod Faces
pub mod Patterns
pub mod Payment
pub mod ByCounts
pub mod Places
pub mod Kept
