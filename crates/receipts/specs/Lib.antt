pub mod Steps
pub mod Form
pub mod Written
pub mod Fits
pub mod Laws
pub mod Signed
