-- Reading lines one after another.
use Rattle.std.proofs.Common.{◌≡◌, ℕ, ◌<◌, List, [], ◌∷◌, ◌++◌, length, refl, ap, ◌∙◌, arith, true, not, Some, None, filter_map, slice_get, append-nil}
use Rattle.std.proofs.lemmas.List.Elements.{filter_map-append}
use Rattle.life_base.specs.Text.{numbered_from, is_empty}
use Rattle.life_base.specs.Refusal.{fault_at}
use Rattle.life_base.specs.declared.kind.Kind.TheVariants.{NoHeader}
use Rattle.life_base.specs.declared.fault.Fault.{Fault}
use Rattle.life_base.proofs.NumberedLines as numbered_lines
use Rattle.life_base.proofs.NumberedLines.{texts}
use Rattle.life_base.proofs.Refusals.{UnbrokenBelow, refusal_at_end}
use Rattle.life_mc.specs.Reading.{AcceptsMacrocell, RefusesMacrocell, broken_rule, missing_macrocell_part, squares_of, square_on, square_after}
use Rattle.life_mc.specs.declared.line.Line.{Line}
use Rattle.life_mc.proofs.ByLines.{by_lines}

none_on : (line : List ℕ) → square_on line ≡ None → filter_map square_on (line ∷ []) ≡ []
none_on line h = rw h refl

one_on : (line : List ℕ) (square : Line) → square_on line ≡ Some square → filter_map square_on (line ∷ []) ≡ square ∷ []
one_on line square h = rw h refl

pub squares_none : (before : List (List ℕ)) (line : List ℕ) → square_after before line ≡ None → squares_of (before ++ line ∷ []) ≡ squares_of before
squares_none [] line h = refl
squares_none (header ∷ before) line h =
    filter_map-append square_on before (line ∷ []) ∙ ap (λ (t : List Line). filter_map square_on before ++ t) (none_on line h)
    ∙ append-nil (filter_map square_on before)

pub squares_some : (before : List (List ℕ)) (line : List ℕ) (square : Line) → square_after before line ≡ Some square
    → squares_of (before ++ line ∷ []) ≡ squares_of before ++ square ∷ []
squares_some [] line square h = cc
squares_some (header ∷ before) line square h =
    filter_map-append square_on before (line ∷ []) ∙ ap (λ (t : List Line). filter_map square_on before ++ t) (one_on line square h)

-- the line of a list in its middle
pub get_seam : (xs : List Line) (y : Line) (ys : List Line) → slice_get (xs ++ y ∷ ys) (length xs) ≡ Some y
get_seam [] y ys = refl
get_seam (x ∷ xs) y ys = get_seam xs y ys

pub some_lines : (lines : List (List ℕ)) → not (is_empty lines) ≡ true → 0 < length lines
some_lines [] h = cc
some_lines (line ∷ lines) h = omega arith

-- why a file is refused whose lines are read with their numbers, where this line breaks a rule and none before it
pub refused_at : (top : ℕ) → (lines : List (List ℕ)) (before : List (ℕ × List ℕ)) (k : ℕ) (line : List ℕ) (rest : List (ℕ × List ℕ)) (fault : Fault)
    → before ++ (k, line) ∷ rest ≡ numbered_from 1 lines
    → UnbrokenBelow (AcceptsMacrocell top) (broken_rule top) missing_macrocell_part (texts before) (length (texts before))
    → broken_rule top (texts before) line ≡ Some fault.kind → fault.place.line ≡ k → RefusesMacrocell top lines fault
refused_at top = numbered_lines.refused_at (AcceptsMacrocell top) (broken_rule top) missing_macrocell_part (by_lines top)

-- why a file without lines is refused
pub no_lines : (top : ℕ) → RefusesMacrocell top [] (fault_at 1 NoHeader)
no_lines top = refusal_at_end (AcceptsMacrocell top) (broken_rule top) missing_macrocell_part (by_lines top) [] NoHeader (λ k h. absurd (omega arith))
    (λ g. let h : 0 < length (let e : List (List ℕ) = [] in e) = g.1.header in absurd (omega arith)) refl
