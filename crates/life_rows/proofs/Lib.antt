pub mod NextRowLemmas
pub mod PutLemmas
pub mod RowWordLemmas
mod AroundLemmas
mod ThreeRowsLemmas
mod NeededLemmas
