-- The words of the contracts of this crate.
pub use Rattle.life_base.specs.Refusal.{fault_of}
pub use Rattle.life_base.specs.Rules.{IsRule}
pub use Rattle.life_base.specs.Tree.{depth, tree_cell}
pub use Rattle.life_base.specs.declared.rule.Rule.TheVariants.{Named as NamedRule}
pub use Rattle.life_pattern.specs.Store.{IsNew}
pub use Rattle.life_pattern.specs.Store.{ForEachFile, Keeps, IsKnown, IsOfFile, IsShortageOf, content}
pub use Rattle.life_pattern.specs.Universe.{IsSame, least_level, square_universe}
pub use Rattle.life_mc.specs.Macrocell.{largest_state}
pub use Rattle.life_quad.specs.Keeping.{AddsOnly}
pub use Rattle.life_quad.specs.Refused.{TrimmedTo}
pub use Rattle.life_quad.specs.Store.{stored_squares}
pub use Rattle.life_step.specs.ByRows.{HasHeaderRule, IsNextOfFile, KeepsRows, SomeByRows, SomeNextOfLines, SomeOfFileByRows}
pub use Rattle.life_step.specs.Refusals.{LacksForLife, LacksForStep, LacksForStepBy, LacksForTable, LifeRefusal, RefusesFile, RefusesPattern, SomeByRule, SomeByTable, SomeOfStep, SomeOfStepBy, TableRefusal}
pub use Rattle.life_step.specs.Stepped.{IsStepped, IsSteppedBy, IsTextWith}
