pub mod LaterFacts
mod TextFacts
pub mod LawFacts
mod Rows
