pub mod Foreign
pub mod Sentences
pub mod Recognition
pub mod Refused
pub mod Warnings
pub mod Damage
pub mod Watching
pub mod Words
