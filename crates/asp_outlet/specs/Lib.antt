pub mod Outlets
pub mod Hearing
