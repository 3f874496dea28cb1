pub mod Boards
pub mod Units
pub mod Sorting
pub mod Events
pub mod Growth
pub mod Invariant
pub mod Stored
pub mod Rows
