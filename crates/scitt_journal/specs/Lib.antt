pub mod Layout
pub mod Log
pub mod State
pub mod Keeping
pub mod Stops
pub mod Laws
