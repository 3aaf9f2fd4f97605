pub mod BandLemmas
pub mod LeafWordLemmas
pub mod NeedLemmas
pub mod PieceLemmas
pub mod RootLemmas
pub mod Rows
pub mod SquareLemmas
