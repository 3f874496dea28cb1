pub mod Parts
pub mod Bests
pub mod Dividing
pub mod Following
