pub mod Starts
pub mod Fixpoint
pub mod Settling
pub mod Whole
