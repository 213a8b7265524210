pub mod Types
pub mod Nodes
pub mod Verifies
pub mod Trees
pub mod Laws
