pub mod Shelves
pub mod Reading
