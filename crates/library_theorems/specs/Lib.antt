pub mod Answered
pub mod Ending
pub mod Words
