pub mod Faults
pub mod Forms
pub mod Jobs
pub mod Layers
pub mod Periods
pub mod Phases
pub mod Words
