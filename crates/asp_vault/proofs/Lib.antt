pub mod Prefixes
pub mod Filters
pub mod Totals
pub mod Rolls
pub mod Moves
pub mod Calls
