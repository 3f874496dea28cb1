pub mod Refuting
pub mod Running
pub mod Twice
