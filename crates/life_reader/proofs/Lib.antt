mod LeafSquares
mod FillFacts
mod Unions
mod FeedFacts
mod PrefixFacts
mod RefusedPrefixes
pub mod BuildFacts
mod RunFacts
mod GrowFacts
mod WaitingFacts
mod NeedFacts
mod OnlyFacts
pub mod PatternFacts
mod Standing
mod Known
mod PlaneParts
mod Holding
pub mod Stored
mod SpaceTrees
mod SpaceRuns
mod SpaceRoots
mod SpaceNodes
mod SpaceLaw
mod Middles
mod MiddleParts
mod MiddleSquares
pub mod SpaceCount
pub mod Adding
