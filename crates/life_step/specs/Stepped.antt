-- One generation of a pattern, and the text of the next one. A B/S rule is of Golly Help (QuickLife), a rule table of Golly Help (File
-- Formats, "@TABLE").
use Rattle.std.specs.Prelude.{◌≡◌, ℕ, ◌+◌, List, ℤ, None}
use Rattle.life_base.specs.declared.cell.TheConstants.{MAX_LEVEL}
use Rattle.life_base.specs.Sets.{OuterTotalistic}
use Rattle.life_base.specs.declared.rule.Rule.TheVariants.{Life, Named}
use Rattle.life_table.specs.Meaning.{Becomes}
use Rattle.life_table.specs.declared.table.Table.{Table}
use Rattle.life_next.specs.Generation.{next_life}
use Rattle.life_sweep.specs.Generation.{AnswersAt}
use Rattle.life_pattern.specs.Files.{Reads}
use Rattle.life_writer.specs.Listing.{canon_text}
use Rattle.life_pattern.specs.Universe.{Universe}
use Rattle.life_step.specs.Refusals.{LifeRefusal, TableRefusal}

-- the next generation of a pattern under a B/S rule
pub record IsLifeStep (before after : Universe) : Type 0 where
  pub life : OuterTotalistic
  pub rule : before.rule ≡ Life life
  pub same_rule : after.rule ≡ before.rule
  pub generation : after.generation ≡ before.generation + 1
  pub cells : (x y : ℤ) → after.cell x y ≡ next_life life before.cell x y

-- the next generation of a pattern by the table of its rule
pub record IsTableStep (table : Table) (before after : Universe) : Type 0 where
  pub rule : before.rule ≡ Named table.name
  pub same_rule : after.rule ≡ before.rule
  pub generation : after.generation ≡ before.generation + 1
  pub cells : (x y : ℤ) → AnswersAt table before.cell x y (Becomes (after.cell x y))

-- the text is a file that says a pattern with this property, and is its own canonical text
pub record IsTextWith (top : ℕ) (Is : Universe → Type 0) (text : List ℕ) : Type 0 where
  pub universe : Universe
  pub is : Is universe
  pub reads : Reads top text universe
  pub canonical : text ≡ canon_text top universe

-- the bytes are a file whose pattern has a next generation under its B/S rule, and the text is the canonical text of that
abbrev pub IsStepped : List ℕ → List ℕ → Type 0
IsStepped bytes text = (u : Universe) × Reads MAX_LEVEL bytes u × LifeRefusal MAX_LEVEL u None × IsTextWith MAX_LEVEL (IsLifeStep u) text

-- the same by a table
abbrev pub IsSteppedBy : Table → List ℕ → List ℕ → Type 0
IsSteppedBy table bytes text =
    (u : Universe) × Reads MAX_LEVEL bytes u × TableRefusal MAX_LEVEL table u None × IsTextWith MAX_LEVEL (IsTableStep table u) text
