pub mod Records
pub mod Keys
pub mod Stops
pub mod Histories
