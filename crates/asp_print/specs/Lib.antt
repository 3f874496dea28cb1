pub mod Parts
pub mod Shown
pub mod Rows
pub mod Named
pub mod Queries
