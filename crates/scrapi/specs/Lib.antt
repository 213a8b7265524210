pub mod Laws
pub mod Seats
