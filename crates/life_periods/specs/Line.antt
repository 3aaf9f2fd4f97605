-- The line that says a period. It is the project's own; the words are those of the field (LifeWiki, Still life, Oscillator, Spaceship).
use Rattle.std.specs.Prelude.{ℕ, ◌==◌, ◌||◌, not, Bool, if◌then◌else◌, List, ◌++◌, pos, Option, Some, None, codes, decimal}
use Rattle.std.specs.Fmt.{signed_decimal}
use Rattle.std.specs.Ordering.{int_eq}
use Rattle.life_phases.specs.declared.middle.Shift.{Shift}
use Rattle.life_phases.specs.declared.period.Period.{Period}

-- the pattern isn't where it was
abbrev pub is_moving : Shift → Bool
is_moving shift = not (int_eq shift.columns (pos 0)) || not (int_eq shift.rows (pos 0))

-- what a pattern with this period is called; and how far it moves, if it does
abbrev pub kind_words : Period → List ℕ
kind_words period =
    if is_moving period.shift then codes " spaceship " ++ signed_decimal period.shift.columns ++ codes " " ++ signed_decimal period.shift.rows
    else (if period.generations == 1 then codes " still life" else codes " oscillator")

abbrev pub period_line : ℕ → Option Period → List ℕ
period_line most None = codes "period none up to " ++ decimal most ++ codes "\n"
period_line most (Some period) = codes "period " ++ decimal period.generations ++ kind_words period ++ codes "\n"
