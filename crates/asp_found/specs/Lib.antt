pub mod Rests
pub mod Verdicts
pub mod Marks
pub mod Derivings
pub mod Valuations
pub mod Merges
pub mod Misnamed
