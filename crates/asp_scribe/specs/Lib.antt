pub mod Proofs
pub mod Scribes
pub mod Lists
