pub mod Soundness
pub mod Signs
pub mod Weights
