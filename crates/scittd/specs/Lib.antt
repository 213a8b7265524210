pub mod Words
pub mod Status
pub mod Reading
pub mod Parameters
pub mod Opening
pub mod Seats
