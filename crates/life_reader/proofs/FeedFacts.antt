-- The first line feed of a piece, and the bytes before and after it.
use Rattle.std.proofs.Common.{◌≡◌, ℕ, zero, suc, ◌+◌, ◌<◌, ◌≤◌, Bool, true, false, not, ◌&&◌, List, [], ◌∷◌, ◌++◌, length, take, drop, get_or, refl, ap, sym, ◌∙◌, arith, ltb, Option, Some, None, append_assoc, drop-cons, ◌==◌, position, ltb-false, take-append-drop}
use Rattle.std.specs.List.{position_or_len}
use Rattle.std.proofs.lemmas.Bool.Decides.{nat_tests}
use Rattle.std.proofs.lemmas.List.Quantifiers.{position-Some}
use Rattle.life_base.specs.Lines.{has_no_feed}
use Rattle.life_base.proofs.LineEnds.{further}
use Rattle.life_base.proofs.Basics.{false_from_none}

abbrev is_feed : ℕ → Bool
is_feed b = b == 10

-- ---- no line feed

none-step : (v : Bool) (b : ℕ) (bytes : List ℕ) → is_feed b ≡ v → (length bytes ≤ position_or_len is_feed bytes → has_no_feed bytes ≡ true)
    → length (b ∷ bytes) ≤ position_or_len is_feed (b ∷ bytes) → has_no_feed (b ∷ bytes) ≡ true
none-step true b bytes e ih h = let k : position_or_len is_feed (b ∷ bytes) ≡ 0 = rw e refl in absurd (omega (arith, rw k at h))
none-step false b bytes e ih h =
    let s = further b bytes e in
    let g : length bytes ≤ position_or_len is_feed bytes = omega (arith, rw s at h) in
    ap (λ v. not v && has_no_feed bytes) e ∙ ih g

none-behind : (bytes : List ℕ) → length bytes ≤ position_or_len is_feed bytes → has_no_feed bytes ≡ true
none-behind [] h = refl
none-behind (b ∷ bytes) h = none-step (is_feed b) b bytes refl (none-behind bytes) h

pub no-feed : (bytes : List ℕ) → position is_feed bytes ≡ None → has_no_feed bytes ≡ true
no-feed bytes h = none-behind bytes (ltb-false _ _ (false_from_none (ltb (position_or_len is_feed bytes) (length bytes)) _ h))

-- ---- the first line feed

pub feed-within : (bytes : List ℕ) (i : ℕ) → position is_feed bytes ≡ Some i → i < length bytes
feed-within bytes i h = (position-Some is_feed bytes i 0 h).0

before-feed : (bytes : List ℕ) (i : ℕ) → ((k : ℕ) → k < i → is_feed (get_or bytes k 0) ≡ false) → has_no_feed (take i bytes) ≡ true
before-feed [] zero h = refl
before-feed [] (suc i) h = refl
before-feed (b ∷ bytes) zero h = refl
before-feed (b ∷ bytes) (suc i) h = ap (λ v. not v && has_no_feed (take i bytes)) (h 0 (omega arith)) ∙ before-feed bytes i (λ k l. h (suc k) (omega arith))

pub feed-before : (bytes : List ℕ) (i : ℕ) → position is_feed bytes ≡ Some i → has_no_feed (take i bytes) ≡ true
feed-before bytes i h = before-feed bytes i (position-Some is_feed bytes i 0 h).2

is-ten : (b : ℕ) → is_feed b ≡ true → b ≡ 10
is-ten b h = grind (arith, nat_tests)

-- the bytes are those before it, the line feed and those after it
pub feed-split : (bytes : List ℕ) (i : ℕ) → position is_feed bytes ≡ Some i → bytes ≡ take i bytes ++ 10 ∷ drop (i + 1) bytes
feed-split bytes i h =
    let p = position-Some is_feed bytes i 0 h in
    let within : i < length bytes = p.0 in
    let same : suc i ≡ i + 1 = omega arith in
    sym (take-append-drop i bytes) ∙ ap (λ (d : List ℕ). take i bytes ++ d) (drop-cons bytes i 0 within)
    ∙ ap (λ (b : ℕ). take i bytes ++ b ∷ drop (suc i) bytes) (is-ten (get_or bytes i 0) p.1) ∙ ap (λ (n : ℕ). take i bytes ++ 10 ∷ drop n bytes) same

-- what comes in a piece, in the order of its parts
pub piece-split : {whole : List ℕ} (bytes rest : List ℕ) (i : ℕ) → position is_feed rest ≡ Some i → bytes ++ rest ≡ whole
    → bytes ++ take i rest ++ 10 ∷ [] ++ drop (i + 1) rest ≡ whole
piece-split bytes rest i h e =
    append_assoc (bytes ++ take i rest) (10 ∷ []) (drop (i + 1) rest) ∙ append_assoc bytes (take i rest) (10 ∷ drop (i + 1) rest)
    ∙ ap (λ (r : List ℕ). bytes ++ r) (sym (feed-split rest i h)) ∙ e

-- no answer
pub is-none : {X : Type 0} (r : Option X) → ((x : X) → r ≡ Some x → ⊥) → r ≡ None
is-none None h = refl
is-none (Some x) h = absurd (h x refl)
