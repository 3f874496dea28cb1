pub mod Counting
pub mod Founding
