-- The words of the contracts of this crate.
pub use Rattle.life_base.specs.Refusal.{fault_of}
pub use Rattle.life_pattern.specs.Store.{ForEachFile, IsOfFile, Keeps}
pub use Rattle.life_generations.specs.Later.{IsTextLater, LaterRefusal}
pub use Rattle.life_generations.specs.Laws.{LaterAdds, LaterTextsAreUnique, NoGenerationIsCanonical, OneGenerationIsStep}
pub use Rattle.life_step.specs.Refusals.{RefusesFile, RefusesPattern}
