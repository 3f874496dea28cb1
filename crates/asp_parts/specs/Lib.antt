pub mod Parts
pub mod Rounds
pub mod Courses
