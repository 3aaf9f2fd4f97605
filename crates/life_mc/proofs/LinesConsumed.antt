-- What is reported of the lines that a reader took.
use Rattle.std.proofs.Common.{◌≡◌, ℕ, List, [], ◌∷◌, ◌++◌, true, refl, sym, subst, ◌∙◌, Some}
use Rattle.std.specs.List.{cons_option}
use Rattle.std.proofs.lemmas.List.Elements.{filter_map-append}
use Rattle.life_base.specs.Refusal.{Prefix}
use Rattle.life_base.specs.Text.{numbered_from}
use Rattle.life_base.specs.declared.fault.Fault.{Fault}
use Rattle.life_base.proofs.NumberedLines.{texts}
use Rattle.life_mc.specs.Grammar.{IsPlainMacrocell}
use Rattle.life_mc.specs.Laws.{IsUnbrokenMacrocell}
use Rattle.life_mc.specs.Macrocell.{Macrocell}
use Rattle.life_mc.specs.Reading.{AcceptsMacrocell, RefusesMacrocell, broken_rule, square_after, square_on, squares_of}
use Rattle.life_mc.specs.Standing.{Standing, StandsAfter}
use Rattle.life_mc.proofs.ByLines.{by_lines, accepted}
use Rattle.life_mc.proofs.Grammars.{grammars_agree}
use Rattle.life_mc.proofs.ReadLines.{refused_at, some_lines}

-- the squares of the lines so far, with that of one line more
pub squares_consumed : (before : List (List ℕ)) (line : List ℕ) → squares_of (before ++ line ∷ []) ≡ squares_of before ++ cons_option (square_after before line)
    []
squares_consumed [] line = refl
squares_consumed (header ∷ before) line = filter_map-append square_on before (line ∷ [])

module _ (top : ℕ) (lines : List (List ℕ)) (state : Standing) (s : StandsAfter top lines state) where
  pub stands_prefix : Prefix (AcceptsMacrocell top) lines
  stands_prefix = (by_lines top).complete lines s.unbroken

  -- once a line came, the lines are a file
  pub file_said : state.started ≡ true → (file : Macrocell) × IsPlainMacrocell top lines file × (state.rule ≡ file.rule) × (state.generation ≡ file.generation)
  file_said e =
      let m = accepted top lines (some_lines lines (sym s.started ∙ e)) s.unbroken in
      (m.0, (grammars_agree top lines m.0).1 m.1, s.rule ∙ sym m.1.rule, s.generation ∙ sym m.1.generation)

-- why an input is refused of which this line breaks a rule
pub refused_here : (top : ℕ) (lines : List (List ℕ)) (before : List (ℕ × List ℕ)) (k : ℕ) (line : List ℕ) (rest : List (ℕ × List ℕ)) (prefix : List (List ℕ))
    (fault : Fault)
    → before ++ (k, line) ∷ rest ≡ numbered_from 1 lines → prefix ≡ texts before → IsUnbrokenMacrocell top prefix
    → broken_rule top prefix line ≡ Some fault.kind
    → fault.place.line ≡ k
    → RefusesMacrocell top lines fault
refused_here top lines before k line rest prefix fault e f u b l =
    let P : List (List ℕ) → Type 0 = λ ls. broken_rule top ls line ≡ Some fault.kind in
    refused_at top lines before k line rest fault e (subst (IsUnbrokenMacrocell top) f u) (subst P f b) l

-- the file of the lines that has this rule, this generation and these squares
pub file_of : (top : ℕ) (lines : List (List ℕ)) (said file : Macrocell) → IsPlainMacrocell top lines said → file.rule ≡ said.rule → file.generation
    ≡ said.generation
    → file.lines ≡ squares_of lines
    → IsPlainMacrocell top lines file
file_of top lines said file f r g s =
    let m = (grammars_agree top lines said).0 f in
    (grammars_agree top lines file).1 (record { header = m.header; unbroken = m.unbroken; rule = r ∙ m.rule; generation = g ∙ m.generation; squares = s })
