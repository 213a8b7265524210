pub mod Conditions
pub mod Documents
pub mod Meaning
pub mod OneAnswer
pub mod Spelling
