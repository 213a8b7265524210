pub mod Tables
pub mod Conditions
pub mod Policies
pub mod Trusts
pub mod Showing
