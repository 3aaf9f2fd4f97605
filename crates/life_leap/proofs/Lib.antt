pub mod EdgeSteps
pub mod EdgeTests
pub mod PlaceLemmas
pub mod PlaneEdge
pub mod AfterLemmas
pub mod BandSteps
pub mod GridLemmas
pub mod LeapLemmas
pub mod StoreSteps
pub mod PlaneSteps
pub mod RootSteps
mod Rows
