pub mod Constraints
pub mod Settled
pub mod Tables
