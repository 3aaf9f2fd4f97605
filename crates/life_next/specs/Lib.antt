pub mod Counts
pub mod Generation
pub mod Words
