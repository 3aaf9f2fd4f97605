-- The form of position lines, said of whole texts: what a position line is put together from. What Pos and Gen mean is of Golly Help (File
-- Formats, Extended RLE); the form and the bounds are the project's own.
use Rattle.std.specs.Prelude.{◌≡◌, ℕ, ◌^◌, ◌<◌, ◌≤◌, ◌⊎◌, ◌↔◌, ◌&&◌, true, false, not, List, [], ◌∷◌, ◌++◌, ℤ, pos, neg_ℤ, Ok, Err, codes}
use Rattle.std.specs.List.{list_all, AllZip}
use Rattle.life_base.specs.declared.kind.Kind.{Kind}
use Rattle.life_base.specs.declared.kind.Kind.TheVariants.{BadNumber, TooLarge, OutOfPlane}
use Rattle.life_base.specs.Text.{is_empty, is_whitespace, is_blank, is_digit_text, value_of}
use Rattle.life_rle.specs.declared.position.Position.{Position}
use Rattle.life_rle.specs.Plane.{is_coordinate}
use Rattle.life_rle.specs.Position.{Field, Corner, Generation, Other, is_position_line, position_of}

-- a word: one byte or more, and none of them whitespace
abbrev pub IsWord : List ℕ → Type 0
IsWord word = (is_empty word ≡ false) × (list_all (λ b. not (is_whitespace b)) word ≡ true)

-- a text of these words, each with some whitespace before it, and then any whitespace
abbrev pub AreWords : List ℕ → List (List ℕ) → Type 0
AreWords text [] = is_blank text ≡ true
AreWords text (word ∷ words) =
    (space more : List ℕ) × (is_empty space ≡ false) × (is_blank space ≡ true) × IsWord word × (text ≡ space ++ (word ++ more)) × AreWords more words

-- the text of a number: a digit text, or `-` and a digit text
abbrev pub IsNumberText : List ℕ → ℤ → Type 0
IsNumberText text z =
    ((is_digit_text text ≡ true) × (z ≡ pos (value_of text)))
    ⊎ ((digits : List ℕ) × (text ≡ codes "-" ++ digits) × (is_digit_text digits ≡ true) × (z ≡ neg_ℤ (pos (value_of digits))))

-- the text of a field and what it gives: `Pos=` and two numbers with a comma between them, `Gen=` and a digit text, or a word that begins
-- with neither
pub data IsFieldText (level : ℕ) (text : List ℕ) (field : Field) : Type 0 where
  corner : (left right : List ℕ) (x y : ℤ) → text ≡ codes "Pos=" ++ (left ++ (codes "," ++ right)) → IsNumberText left x → IsNumberText right y
      → is_coordinate level x ≡ true → is_coordinate level y ≡ true → field ≡ Corner x y → IsFieldText level text field
  generation : (digits : List ℕ) → text ≡ codes "Gen=" ++ digits → is_digit_text digits ≡ true → value_of digits < 2 ^ 64 → field ≡ Generation (value_of digits)
      → IsFieldText level text field
  other : ((rest : List ℕ) → text ≡ codes "Pos=" ++ rest → ⊥) → ((rest : List ℕ) → text ≡ codes "Gen=" ++ rest → ⊥) → field ≡ Other
      → IsFieldText level text field

-- Which rule a field breaks: `Pos=` without two numbers and a comma between them, or with a number outside the plane; `Gen=` without a digit
-- text, or with a number of 2 ^ 64 or more.
pub data IsNoField (level : ℕ) (text : List ℕ) (kind : Kind) : Type 0 where
  no_corner : (rest : List ℕ) → text ≡ codes "Pos=" ++ rest
      → ((left right : List ℕ) (x y : ℤ) → rest ≡ left ++ (codes "," ++ right) → IsNumberText left x → IsNumberText right y → ⊥) → kind ≡ BadNumber
      → IsNoField level text kind
  outside : (left right : List ℕ) (x y : ℤ) → text ≡ codes "Pos=" ++ (left ++ (codes "," ++ right)) → IsNumberText left x → IsNumberText right y
      → (is_coordinate level x && is_coordinate level y) ≡ false → kind ≡ OutOfPlane → IsNoField level text kind
  no_generation : (rest : List ℕ) → text ≡ codes "Gen=" ++ rest → is_digit_text rest ≡ false → kind ≡ BadNumber → IsNoField level text kind
  large : (digits : List ℕ) → text ≡ codes "Gen=" ++ digits → is_digit_text digits ≡ true → 2 ^ 64 ≤ value_of digits → kind ≡ TooLarge
      → IsNoField level text kind

-- words that are fields, in their order
abbrev pub AreFields : ℕ → List (List ℕ) → List Field → Type 0
AreFields level words fields = AllZip (IsFieldText level) words fields

-- no field is a corner
abbrev pub HasNoCorner : List Field → Type 0
HasNoCorner [] = Unit {0}
HasNoCorner (Corner x y ∷ fields) = ⊥
HasNoCorner (field ∷ fields) = HasNoCorner fields

-- no field is a generation
abbrev pub HasNoGeneration : List Field → Type 0
HasNoGeneration [] = Unit {0}
HasNoGeneration (Generation n ∷ fields) = ⊥
HasNoGeneration (field ∷ fields) = HasNoGeneration fields

-- the corner of the last field that is one, (0, 0) without one
abbrev pub IsLastCorner : List Field → ℤ → ℤ → Type 0
IsLastCorner fields x y =
    (HasNoCorner fields × (x ≡ pos 0) × (y ≡ pos 0))
    ⊎ ((before behind : List Field) × (fields ≡ before ++ Corner x y ∷ behind) × HasNoCorner behind)

-- the generation of the last field that is one, 0 without one
abbrev pub IsLastGeneration : List Field → ℕ → Type 0
IsLastGeneration fields n =
    (HasNoGeneration fields × (n ≡ 0)) ⊎ ((before behind : List Field) × (fields ≡ before ++ Generation n ∷ behind) × HasNoGeneration behind)

-- a line of `#CXRLE` and words that are fields, and the position that they give
pub record IsPositionText (level : ℕ) (line : List ℕ) (position : Position) : Type 0 where
  pub text : List ℕ
  pub words : List (List ℕ)
  pub fields : List Field
  pub whole : line ≡ codes "#CXRLE" ++ text
  pub apart : AreWords text words
  pub each : AreFields level words fields
  pub corner : IsLastCorner fields position.x position.y
  pub generation : IsLastGeneration fields position.generation

-- a line of `#CXRLE` and words, of which the first that is no field breaks this rule
pub record IsNoPosition (level : ℕ) (line : List ℕ) (kind : Kind) : Type 0 where
  pub text : List ℕ
  pub words : List (List ℕ)
  pub word : List ℕ
  pub behind : List (List ℕ)
  pub fields : List Field
  pub whole : line ≡ codes "#CXRLE" ++ text
  pub apart : AreWords text (words ++ word ∷ behind)
  pub each : AreFields level words fields
  pub fault : IsNoField level word kind

-- Reading a position line gives a position exactly if the line is the text of one, and a fault exactly if it is the first field's that has one.
abbrev pub PositionsArePlain : Type 0
PositionsArePlain =
    (level : ℕ) (line : List ℕ)
    → ((position : Position) → ((is_position_line line ≡ true) × (position_of level line ≡ Ok position)) ↔ IsPositionText level line position)
    × ((kind : Kind) → ((is_position_line line ≡ true) × (position_of level line ≡ Err kind)) ↔ IsNoPosition level line kind)
