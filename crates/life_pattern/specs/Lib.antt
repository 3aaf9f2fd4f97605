pub mod Universe
pub mod Files
pub mod Quarters
pub mod Store
pub mod Laws
pub mod Bits
pub mod Words
