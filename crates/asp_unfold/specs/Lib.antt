pub mod Unfolded
pub mod Tables
