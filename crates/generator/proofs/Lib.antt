pub mod Entries
pub mod Rulings
pub mod Adding
pub mod Tallying
pub mod Auditing
pub mod Beginning
