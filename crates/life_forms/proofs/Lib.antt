pub mod TurnFacts
pub mod ShiftFacts
pub mod SizeFacts
pub mod LeastFacts
pub mod FileLaws
mod Rows
pub mod PlaneFacts
pub mod ImageFacts
pub mod PatternFacts
pub mod MirrorFacts
pub mod MovedFacts
pub mod TextFacts
pub mod TransposeFacts
pub mod LeafFacts
pub mod LeafNumbers
pub mod CornerTexts
pub mod AreaFacts
pub mod CornerFacts
pub mod SmallCorners
mod TurnedLeaves
pub mod RefusalFacts
pub mod ComparingFacts
