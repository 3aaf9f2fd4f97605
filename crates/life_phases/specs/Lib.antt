pub mod Laws
pub mod Middle
pub mod Periods
pub mod Words
