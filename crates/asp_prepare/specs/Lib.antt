pub mod Meaning
pub mod Naming
pub mod Told
