pub mod Learning
pub mod Marks
pub mod Way
