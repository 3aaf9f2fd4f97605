pub mod Margins
pub mod Needed
pub mod Parts
pub mod Pieces
pub mod Remembered
pub mod Words
