pub mod Readable
pub mod Rewritten
pub mod Parts
