pub mod Texts
pub mod Names
pub mod Values
pub mod Found
pub mod Given
pub mod Hints
