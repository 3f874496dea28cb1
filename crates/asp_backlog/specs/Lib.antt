pub mod Backlogs
pub mod Stored
pub mod Telling
