pub mod Books
pub mod Fuels
pub mod Replies
pub mod Stored
pub mod Calls
