pub mod Quoting
pub mod Commas
pub mod Json
pub mod Tables
pub mod Entries
