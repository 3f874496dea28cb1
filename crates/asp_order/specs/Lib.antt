pub mod Heaps
pub mod Sifting
pub mod Pacing
pub mod Waiting
pub mod Voting
