pub mod Saying
pub mod CountLaws
pub mod WholeLaws
pub mod LateLaws
