pub mod DealTells
pub mod DealInputs
