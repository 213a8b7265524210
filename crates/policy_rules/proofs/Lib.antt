pub mod Answered
pub mod Levels
pub mod OneDocument
pub mod Spelled
pub mod Whole
