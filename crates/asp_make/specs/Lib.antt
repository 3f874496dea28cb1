pub mod Texts
pub mod Ring
