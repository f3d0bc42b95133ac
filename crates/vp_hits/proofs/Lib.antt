pub mod Chances
pub mod Printed
pub mod Shares
pub mod Masks
pub mod AskedLines
pub mod HitLines
pub mod HitsInputs
pub mod HitsTells
