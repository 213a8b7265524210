pub mod Answered
pub mod Late
pub mod Played
pub mod Whole
