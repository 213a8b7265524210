pub mod Taking
pub mod Gates
pub mod Audited
pub mod Records
pub mod Bad
pub mod Saying
pub mod One
pub mod Beside
