pub mod BoundedTests
pub mod CountLemmas
pub mod Masks
pub mod RankSums
pub mod ShapeSteps
