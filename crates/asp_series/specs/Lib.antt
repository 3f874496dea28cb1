pub mod Series
pub mod Asking
