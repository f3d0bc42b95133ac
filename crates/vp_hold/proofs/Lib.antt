pub mod Numbers
pub mod ByMask
pub mod ScaledSums
pub mod Values
pub mod SquaredPayments
