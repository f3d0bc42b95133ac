pub mod Ranking
pub mod Holds
pub mod HoldsTell
