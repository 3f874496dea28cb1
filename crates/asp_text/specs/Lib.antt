pub mod Lines
pub mod Unread
pub mod Held
pub mod Fields
pub mod FieldsLeft
pub mod Front
