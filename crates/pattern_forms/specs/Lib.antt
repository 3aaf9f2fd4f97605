pub mod InForm
pub mod Words
