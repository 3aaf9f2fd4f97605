pub mod TurnLemmas
pub mod TextLemmas
pub mod CourseLemmas
pub mod SameLemmas
pub mod PlaneLemmas
pub mod TellLemmas
pub mod PhaseLemmas
pub mod FileLemmas
mod Rows
