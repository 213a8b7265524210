pub mod Standing
pub mod Meaning
pub mod Own
pub mod Growing
