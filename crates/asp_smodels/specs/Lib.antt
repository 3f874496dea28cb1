pub mod Lines
pub mod Outcome
pub mod Parts
pub mod Seen
pub mod Texts
