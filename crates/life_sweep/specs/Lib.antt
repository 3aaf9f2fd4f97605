pub mod Generation
pub mod LawFacts
pub mod RunBuilder
pub mod Refused
pub mod Rows
pub mod Sweep
pub mod Words
