pub mod Accepted
pub mod Counts
pub mod Drawing
pub mod Fairness
pub mod Lines
pub mod Sizes
pub mod MadeLogs
pub mod PlayTells
