-- The lesser of two texts: of an old one, which is whole, and of a new one, which comes piece by piece.
use Rattle.std.specs.Prelude.{◌≡◌, ◌⊎◌, ℕ, ◌≤◌, false, List, ◌++◌, length, take, flat_map}
use Rattle.std.specs.Ordering.{nat_cmp, is_gt}
use Rattle.std.specs.Cmp.Lexicographic.{slice_cmp}
use Rattle.life_mc.specs.Writing.{node_text}
use Rattle.life_mc.specs.declared.line.Line.{Line}
use Rattle.life_writer.specs.declared.lesser.Lesser.{Lesser}
use Rattle.life_writer.specs.declared.lesser.Lesser.TheVariants.{Undecided, New, Old}

-- the first of two texts is no greater, byte by byte
pub record IsUpTo (a b : List ℕ) : Type 0 where
  pub order : is_gt (slice_cmp nat_cmp a b) ≡ false

-- Which text is the lesser one, where `new` is what has come of the second: undecided where the first begins with it, else decided whatever comes.
abbrev pub IsLesser : List ℕ → List ℕ → Lesser → Type 0
IsLesser old new (Undecided count) = (count ≡ length new) × (take count old ≡ new)
IsLesser old new New = (more : List ℕ) → IsUpTo (new ++ more) old
IsLesser old new Old = (more : List ℕ) → IsUpTo old (new ++ more)

-- the bytes that are held of the two: what has come of the new text once it is the lesser one, and until then the old text
abbrev pub kept_text : List ℕ → List ℕ → Lesser → List ℕ
kept_text old new (Undecided count) = old
kept_text old new New = new
kept_text old new Old = old

-- these bytes are held, and so it is decided
pub record LesserHolds (old new : List ℕ) (lesser : Lesser) (held : List ℕ) : Type 0 where
  pub is : IsLesser old new lesser
  pub bytes : held ≡ kept_text old new lesser

-- what is undecided is within the bytes that are held
abbrev pub IsWithinTexts : Lesser → List ℕ → Type 0
IsWithinTexts (Undecided count) held = count ≤ length held
IsWithinTexts New held = Unit {0}
IsWithinTexts Old held = Unit {0}

-- the text of these lines came between two states
abbrev pub LinesCome : Lesser → List ℕ → Lesser → List ℕ → List Line → Type 0
LinesCome before held after left lines =
    (old new : List ℕ) → LesserHolds old new before held → LesserHolds old (new ++ flat_map node_text lines) after left

-- where the old text is the lesser one it is held, and it is no greater than the new one
abbrev pub IsOldHeld : List ℕ → List ℕ → Lesser → List ℕ → Type 0
IsOldHeld old new lesser held = lesser ≡ Old → (held ≡ old) × IsUpTo old new

-- it is so after these lines
abbrev pub IsOldLesser : Lesser → List ℕ → Lesser → List ℕ → List Line → Type 0
IsOldLesser before held after left lines =
    (old new : List ℕ) → LesserHolds old new before held → IsOldHeld old (new ++ flat_map node_text lines) after left

-- the text is one of the two, and no greater than either
pub record IsLesserText (old new text : List ℕ) : Type 0 where
  pub one : (text ≡ old) ⊎ (text ≡ new)
  pub first : IsUpTo text old
  pub second : IsUpTo text new
