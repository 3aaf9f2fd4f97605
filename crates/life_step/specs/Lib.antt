pub mod Stepped
pub mod Refusals
pub mod ByRows
pub mod Words
