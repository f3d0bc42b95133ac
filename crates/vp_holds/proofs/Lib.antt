pub mod Ranked
pub mod LineShares
pub mod HoldLines
pub mod HoldsTell
