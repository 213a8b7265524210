pub mod Again
pub mod Answering
pub mod Shaped
pub mod Whole
pub mod SignedLemmas
