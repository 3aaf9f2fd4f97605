-- The fields of a position line.
use Rattle.std.proofs.Common.{◌≡◌, ℕ, ◌&&◌, Bool, true, false, cond, List, [], ◌∷◌, length, drop, refl, sym, ap, ◌∙◌, Some, None, Ok, Err, Option, Result, ℤ, codes, ◌==◌}
use mathlib.Core.Bool.{and-false}
use Rattle.life_base.specs.declared.kind.Kind.{Kind}
use Rattle.life_base.specs.declared.kind.Kind.TheVariants.{BadNumber, OutOfPlane}
use Rattle.life_base.specs.Text.{begins_with, with_word}
use Rattle.life_base.specs.Numbers.{u64_of}
use Rattle.life_rle.specs.declared.position.Position.{Position}
use Rattle.life_rle.specs.Plane.{is_coordinate}
use Rattle.life_rle.specs.Reader.{IsNumberRead}
use Rattle.life_rle.specs.Position.{Field, Corner, Generation, Other, corner_of, corner_in, field_of, position_with_field, and_then, position_with}

pub corner-no_second : (level : ℕ) (z : ℤ) (sx sy : Option ℤ) (f : Field → Result Position Kind) → IsNumberRead level (Some z) sx → IsNumberRead level None sy
    → and_then (corner_of level sx sy) f ≡ Err BadNumber
corner-no_second level z None sy f h k = absurd h
corner-no_second level z (Some w) None f h k = refl
corner-no_second level z (Some w) (Some v) f h k = absurd k

pub corner-out : (level : ℕ) (x y : ℤ) (sx sy : Option ℤ) (f : Field → Result Position Kind) → IsNumberRead level (Some x) sx → IsNumberRead level (Some y) sy
    → (is_coordinate level x && is_coordinate level y) ≡ false → and_then (corner_of level sx sy) f ≡ Err OutOfPlane
corner-out level x y None sy f h k e = absurd h
corner-out level x y (Some w) None f h k e = absurd k
corner-out level x y (Some w) (Some v) f h k e =
    ap (λ t. and_then (cond (t && is_coordinate level v) (Ok (Corner w v)) (Err OutOfPlane)) f) h.0
    ∙ ap (λ t. and_then (cond (is_coordinate level x && t) (Ok (Corner w v)) (Err OutOfPlane)) f) k.0
    ∙ ap (λ t. and_then (cond t (Ok (Corner w v)) (Err OutOfPlane)) f) e

pub corner-inside : (level : ℕ) (x y : ℤ) (sx sy : Option ℤ) (f : Field → Result Position Kind) → IsNumberRead level (Some x) sx
    → IsNumberRead level (Some y) sy → is_coordinate level x ≡ true → is_coordinate level y ≡ true → and_then (corner_of level sx sy) f ≡ f (Corner x y)
corner-inside level x y None sy f h k e g = absurd h
corner-inside level x y (Some w) None f h k e g = absurd k
corner-inside level x y (Some w) (Some v) f h k e g =
    ap (λ t. and_then (cond (t && is_coordinate level v) (Ok (Corner w v)) (Err OutOfPlane)) f) (h.0 ∙ e)
    ∙ ap (λ t. and_then (cond t (Ok (Corner w v)) (Err OutOfPlane)) f) (k.0 ∙ g)
    ∙ ap (λ z. f (Corner z v)) (h.1 (h.0 ∙ e)) ∙ ap (λ z. f (Corner x z)) (k.1 (k.0 ∙ g))

pub corner-left : (level : ℕ) (x y : ℤ) (sx sy : Option ℤ) (f : Field → Result Position Kind) → IsNumberRead level (Some x) sx → IsNumberRead level (Some y) sy
    → is_coordinate level x ≡ false → and_then (corner_of level sx sy) f ≡ Err OutOfPlane
corner-left level x y sx sy f h k e = corner-out level x y sx sy f h k (ap (λ t. t && is_coordinate level y) e)

pub corner-right : (level : ℕ) (x y : ℤ) (sx sy : Option ℤ) (f : Field → Result Position Kind) → IsNumberRead level (Some x) sx → IsNumberRead level (Some y) sy
    → is_coordinate level y ≡ false → and_then (corner_of level sx sy) f ≡ Err OutOfPlane
corner-right level x y sx sy f h k e = corner-out level x y sx sy f h k (ap (λ t. is_coordinate level x && t) e ∙ and-false (is_coordinate level x))

-- the choice between fields
abbrev chosen : ℕ → List ℕ → (Field → Result Position Kind) → Bool → Bool → Result Position Kind
chosen level text f corner generation = and_then
    (cond corner (corner_in level (drop 4 text)) (cond generation (and_then (u64_of (drop 4 text)) (λ n. Ok (Generation n))) (Ok Other))) f

pub field-corner : (level : ℕ) (text : List ℕ) (f : Field → Result Position Kind) → begins_with text (codes "Pos=") ≡ true
    → and_then (field_of level text) f ≡ and_then (corner_in level (drop 4 text)) f
field-corner level text f e = ap (λ t. chosen level text f t (begins_with text (codes "Gen="))) e

pub field-generation : (level : ℕ) (text : List ℕ) (f : Field → Result Position Kind) → begins_with text (codes "Pos=") ≡ false
    → begins_with text (codes "Gen=") ≡ true
    → and_then (field_of level text) f ≡ and_then (and_then (u64_of (drop 4 text)) (λ n. Ok (Generation n))) f
field-generation level text f e g = ap (λ t. chosen level text f t (begins_with text (codes "Gen="))) e ∙ ap (chosen level text f false) g

pub position-stop : (level : ℕ) (p : Position) (kind : Kind) (field : List ℕ) (fields : List (List ℕ))
    → Err kind ≡ and_then (field_of level field) (λ found. Ok (position_with_field p found)) → position_with level p (field ∷ fields) ≡ Err kind
position-stop level p kind field fields e = step (field_of level field) e
  where
    step : (f : Result Field Kind) → Err kind ≡ and_then f (λ found. Ok (position_with_field p found))
        → and_then f (λ found. position_with level (position_with_field p found) fields) ≡ Err kind
    step (Ok found) e = cc
    step (Err other) e = let q : kind ≡ other = cc in ap Err (sym q)

-- the first word, and the end of the words
pub word-first : (word : List ℕ) (words all : List (List ℕ)) → all ≡ with_word word words → (length word == 0) ≡ false → all ≡ word ∷ words
word-first [] words all e h = cc
word-first (b ∷ word) words all e h = e
