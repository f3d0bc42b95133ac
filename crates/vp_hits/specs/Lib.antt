pub mod Hits
pub mod Laws
pub mod Numbers
pub mod HitsJob
pub mod HitsTells
