pub mod Drafts
pub mod Named
pub mod Stated
