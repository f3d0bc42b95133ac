pub mod SessionInputs
pub mod SessionLines
pub mod SessionsTell
