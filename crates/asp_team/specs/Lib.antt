pub mod Joined
pub mod Teams
