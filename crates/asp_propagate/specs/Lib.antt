pub mod Useful
pub mod Whole
pub mod Propagating
pub mod Locking
pub mod Late
pub mod Saying
