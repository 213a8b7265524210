pub mod WordLemmas
pub mod Contents
