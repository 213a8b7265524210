pub mod Prefixes
pub mod Weights
pub mod Moves
pub mod Steps
pub mod Sitting
