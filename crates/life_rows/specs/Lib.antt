pub mod Needed
pub mod RowCells
pub mod Stepping
pub mod Words
