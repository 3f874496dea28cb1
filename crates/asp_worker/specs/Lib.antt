pub mod Seats
pub mod Working
pub mod Sharing
