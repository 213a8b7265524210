pub mod Reports
pub mod Walks
pub mod Reading
pub mod Streams
pub mod Fetches
pub mod Given
pub mod Keeping
pub mod Laws
