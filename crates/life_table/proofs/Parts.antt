-- The first part of a text that a byte separates.
use Rattle.std.proofs.Common.{◌≡◌, ℕ, suc, ◌+◌, ◌<◌, List, [], ◌∷◌, length, take, drop, ltb, ◌≤◌, Bool, true, false, cond, not, refl, ap, ◌∙◌, arith, position, Some, None, ltb-false}
use Rattle.std.proofs.lemmas.List.Quantifiers.{position-Some}
use Rattle.std.proofs.lemmas.List.Sums.{position_or_len_is}
use Rattle.std.proofs.lemmas.List.Splits.{slice_split_first}
use Rattle.std.specs.List.{position_or_len, slice_split, onto_first}
use Rattle.life_base.proofs.Basics.{false_from_none}

-- the first separator is at i
pub parts_at : (p : ℕ → Bool) (text : List ℕ) (i : ℕ) → position p text ≡ Some i → slice_split p text ≡ take i text ∷ slice_split p (drop (i + 1) text)
parts_at p text i h =
    let f = position-Some p text i 0 h in
    let e : position_or_len p text ≡ i = position_or_len_is p text i 0 (omega (arith, f.0)) f.2 (λ _. f.1) in
    let small : position_or_len p text < length text = omega (arith, e, f.0) in
    slice_split_first p text 0 small ∙ ap (λ (j : ℕ). take j text ∷ slice_split p (drop (j + 1) text)) e

further : (p : ℕ → Bool) (b : ℕ) (text : List ℕ) → p b ≡ false → position_or_len p (b ∷ text) ≡ suc (position_or_len p text)
further p b text e = ap (λ v. cond (not v) (1 + position_or_len p text) 0) e ∙ omega arith

last_step : (p : ℕ → Bool) (v : Bool) (b : ℕ) (text : List ℕ) → p b ≡ v
    → (length text ≤ position_or_len p text → slice_split p text ≡ text ∷ [])
    → length (b ∷ text) ≤ position_or_len p (b ∷ text) → slice_split p (b ∷ text) ≡ (b ∷ text) ∷ []
last_step p true b text e ih h = let k : position_or_len p (b ∷ text) ≡ 0 = rw e refl in absurd (omega (arith, rw k at h))
last_step p false b text e ih h =
    let s = further p b text e in
    let h' : length text ≤ position_or_len p text = omega (arith, rw s at h) in
    ap (λ v. cond v ([] ∷ slice_split p text) (onto_first b (slice_split p text))) e ∙ ap (onto_first b) (ih h')

last_part : (p : ℕ → Bool) (text : List ℕ) → length text ≤ position_or_len p text → slice_split p text ≡ text ∷ []
last_part p [] h = refl
last_part p (b ∷ text) h = last_step p (p b) b text refl (last_part p text) h

-- there is no separator
pub parts_without : (p : ℕ → Bool) (text : List ℕ) → position p text ≡ None → slice_split p text ≡ text ∷ []
parts_without p text h = last_part p text (ltb-false _ _ (false_from_none (ltb (position_or_len p text) (length text)) _ h))
