pub mod Invariants
pub mod Meeting
pub mod Blocking
pub mod Beside
pub mod Stepping
pub mod Refuting
pub mod Sure
