pub mod Levels
pub mod Functions
pub mod Keys
pub mod Verifies
pub mod Signing
pub mod Branches
pub mod Signers
