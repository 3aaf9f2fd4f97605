-- The words of the contracts of this crate.
pub use Rattle.claims.specs.Files.{IsShortage, pattern_of}
pub use Rattle.generation_theorems.specs.ManyGenerations.{IsClaimedTextLater, IsNotAdvanced}
