pub mod Blaming
pub mod Cores
