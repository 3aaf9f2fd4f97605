pub mod Faults
pub mod Forms
pub mod Sources
pub mod Words
