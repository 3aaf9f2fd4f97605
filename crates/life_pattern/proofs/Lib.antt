pub mod TreeWords
pub mod Trees
pub mod Bits
pub mod LineWords
pub mod LineFacts
pub mod Planes
pub mod Whole
pub mod Sameness
mod CentredFacts
pub mod Formats
mod FileLaws
pub mod Fits
pub mod RefusalKinds
pub mod Found
pub mod ReadFacts
pub mod SpaceLists
