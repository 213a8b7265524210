pub mod Putting
pub mod Each
pub mod KindLemmas
pub mod Growing
pub mod Found
pub mod ReadBack
pub mod TrustSpelled
