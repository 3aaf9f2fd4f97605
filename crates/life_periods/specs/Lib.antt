pub mod Line
pub mod OfFile
pub mod Words
