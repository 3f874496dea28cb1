pub mod Blocks
pub mod Entries
pub mod Stored
pub mod Shown
