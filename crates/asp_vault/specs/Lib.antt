pub mod Makers
pub mod Rules
pub mod Seats
pub mod Moments
