pub mod Endings
pub mod Leaves
pub mod Lows
pub mod Streams
