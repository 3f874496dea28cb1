pub mod Ledgers
pub mod Stored
