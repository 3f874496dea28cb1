pub mod Changes
pub mod Turns
pub mod Texts
pub mod Grammar
pub mod Fields
pub mod Walk
pub mod Reading
