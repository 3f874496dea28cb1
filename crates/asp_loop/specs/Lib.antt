pub mod LoopNogoods
pub mod Weighing
pub mod Parts
pub mod Founded
pub mod Rows
