pub mod Turns
pub mod Forms
pub mod Laws
pub mod Cells
pub mod Needed
pub mod Images
pub mod Words
pub mod Corners
