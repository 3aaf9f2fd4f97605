-- The laws of the macrocell format.
use Rattle.std.proofs.Common.{ℕ, List, ap, sym, ◌∙◌}
use Rattle.life_base.specs.declared.rule.Rule.{Rule}
use Rattle.life_base.proofs.Refusals.{prefix_unbroken, refusal_unique}
use Rattle.life_mc.specs.Reading.{AcceptsMacrocell, broken_rule, missing_macrocell_part}
use Rattle.life_mc.specs.Laws.{MacrocellsAreUnique, MacrocellFaultsAreUnique, MacrocellPrefixesAreUnbroken, MacrocellPrefixesAreFiles}
use Rattle.life_mc.specs.declared.line.Line.{Line}
use Rattle.life_mc.proofs.ByLines.{by_lines, accepted}

pub files_are_unique : (top : ℕ) → MacrocellsAreUnique top
files_are_unique top lines a b p q =
    ap (λ (r : Rule). record { rule = r; generation = a.generation; lines = a.lines }) (p.rule ∙ sym q.rule)
    ∙ ap (λ (g : ℕ). record { rule = b.rule; generation = g; lines = a.lines }) (p.generation ∙ sym q.generation)
    ∙ ap (λ (ls : List Line). record { rule = b.rule; generation = b.generation; lines = ls }) (p.squares ∙ sym q.squares)

pub faults_are_unique : (top : ℕ) → MacrocellFaultsAreUnique top
faults_are_unique top = refusal_unique (AcceptsMacrocell top) (broken_rule top) missing_macrocell_part

pub prefixes_are_unbroken : (top : ℕ) → MacrocellPrefixesAreUnbroken top
prefixes_are_unbroken top lines = (
  prefix_unbroken (AcceptsMacrocell top) (broken_rule top) missing_macrocell_part (by_lines top) lines,
  (by_lines top).complete
      lines,
)

pub prefixes_are_files : (top : ℕ) → MacrocellPrefixesAreFiles top
prefixes_are_files top lines h = (
  λ p. accepted top lines h (prefix_unbroken (AcceptsMacrocell top) (broken_rule top) missing_macrocell_part (by_lines top) lines p),
  λ m. (by_lines top).complete lines m.1.unbroken,
)
