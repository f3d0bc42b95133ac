pub mod Deal
pub mod DealTells
