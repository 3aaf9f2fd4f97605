pub mod Phases
pub mod OfFile
pub mod Laws
pub mod Words
