pub mod Sessions
pub mod SessionsTell
