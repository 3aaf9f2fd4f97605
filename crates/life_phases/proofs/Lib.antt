pub mod MiddleLemmas
pub mod NextLemmas
pub mod PeriodLemmas
pub mod ShiftLemmas
pub mod UniqueLemmas
