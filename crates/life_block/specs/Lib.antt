pub mod Bits
pub mod Corners
pub mod Laws
pub mod Needed
pub mod Remembered
pub mod Words
