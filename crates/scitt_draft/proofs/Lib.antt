pub mod Protected
pub mod PolicyShape
pub mod Stating
