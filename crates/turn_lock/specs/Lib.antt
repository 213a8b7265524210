pub mod Calls
pub mod Seats
pub mod Told
pub mod Turns
pub mod Views
