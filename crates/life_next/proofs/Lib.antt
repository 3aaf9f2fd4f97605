pub mod CountLemmas
pub mod NextLemmas
pub mod Rows
pub mod WordLemmas
