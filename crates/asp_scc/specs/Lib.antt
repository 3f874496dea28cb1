pub mod Graphs
pub mod Searches
pub mod Classes
pub mod Edges
pub mod Turned
pub mod Dependencies
pub mod Components
pub mod Numbers
