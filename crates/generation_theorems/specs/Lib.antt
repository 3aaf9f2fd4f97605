pub mod ManyGenerations
pub mod Words
