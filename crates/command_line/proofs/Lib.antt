pub mod MatchesLemmas
pub mod TaskLemmas
pub mod LineLemmas
pub mod Faultless
