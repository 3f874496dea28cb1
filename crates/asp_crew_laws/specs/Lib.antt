pub mod Runs
pub mod Agrees
pub mod Working
pub mod Reports
pub mod Gone
