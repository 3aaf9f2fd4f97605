pub mod PlaceLemmas
pub mod Rows
pub mod WordLemmas
