pub mod ChainLaws
pub mod DigitLaws
pub mod JoinedLaws
pub mod Hashing
pub mod PartLaws
pub mod OneTimeLaws
pub mod BlockLaws
