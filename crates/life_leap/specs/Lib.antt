pub mod After
pub mod Bands
pub mod Edge
pub mod Grid
pub mod Leaps
pub mod Words
