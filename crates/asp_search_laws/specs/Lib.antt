pub mod Keeping
pub mod Axioms
pub mod Explaining
pub mod Searching
pub mod Faults
pub mod Steps
