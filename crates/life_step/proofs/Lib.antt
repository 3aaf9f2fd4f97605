mod StateFacts
mod RefusalFacts
pub mod StepFacts
mod RunCells
mod RowFacts
pub mod NeedFacts
mod Rows
pub mod Finding
