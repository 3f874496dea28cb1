pub mod Cutting
pub mod Found
pub mod Digits
pub mod Blanks
pub mod Front
pub mod DigitLaws
