pub mod FormLemmas
pub mod SourceLemmas
pub mod StartLemmas
