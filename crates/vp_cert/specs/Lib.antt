pub mod Holds
pub mod Certify
pub mod CertifyTells
