pub mod Words
pub mod Parameters
pub mod Chains
pub mod Digits
pub mod OneTime
pub mod Laws
