pub mod Entries
pub mod Reasons
pub mod Trails
pub mod Fixpoint
pub mod Told
