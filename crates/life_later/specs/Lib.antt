pub mod Course
pub mod Margins
pub mod Stores
pub mod Words
