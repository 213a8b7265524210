pub mod Answered
pub mod LevelsTold
pub mod OneParams
