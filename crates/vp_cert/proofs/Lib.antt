pub mod SoFar
pub mod Parts
pub mod CertifyTells
