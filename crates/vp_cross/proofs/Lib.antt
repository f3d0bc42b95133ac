pub mod Costliest
pub mod Costs
pub mod Totals
pub mod ByClasses
pub mod CostLaws
pub mod CrossInputs
pub mod CrossTells
