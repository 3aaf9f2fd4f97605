pub mod Bits
pub mod Pieces
pub mod Words
