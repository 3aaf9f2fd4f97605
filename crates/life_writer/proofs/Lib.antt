pub mod SameTrees
pub mod ListFacts
mod Walk
mod Leaves
pub mod LeafWords
mod Content
pub mod Canonical
mod Least
mod Keys
mod NumberFacts
pub mod TextLaws
mod WiderPlanes
pub mod RowFacts
mod CellFacts
pub mod TextFacts
pub mod PieceFacts
pub mod OrderFacts
mod LesserFacts
mod WalkingFacts
mod SeenFacts
mod CountingFacts
mod ShowFacts
pub mod Spots
mod Rows
pub mod WholeSquares
