pub mod Answer
pub mod Command
pub mod Meaning
pub mod Texts
pub mod Run
