pub mod Copies
pub mod Merged
pub mod Reduced
pub mod Tables
