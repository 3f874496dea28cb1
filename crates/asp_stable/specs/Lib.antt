pub mod Holding
pub mod Founding
pub mod Ranks
