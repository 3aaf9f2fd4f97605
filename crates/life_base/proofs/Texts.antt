-- Facts about texts: whitespace at the beginning, lengths, and texts that are the same.
use Rattle.std.proofs.Common.{◌≡◌, ℕ, ◌<◌, ◌≤◌, ◌^◌, Bool, true, false, cond, ◌&&◌, List, [], ◌∷◌, ◌++◌, length, take, decimal, bytes_eq, refl, sym, ap, ◌∙◌, arith, append-nil}
use Rattle.std.proofs.lemmas.Bool.{and_parts}
use Rattle.std.proofs.lemmas.Bool.Decides.{nat_tests}
use Rattle.std.proofs.lemmas.Fmt.{length-decimal-le}
use Rattle.std.proofs.lemmas.Slice.Eq.{bytes_eq-Decides}
use Rattle.life_base.specs.Text.{is_empty, is_whitespace, is_blank, is_too_long, trim_start, words_of, onto_first}

pub empty_is : (text : List ℕ) → is_empty text ≡ true → text ≡ []
empty_is [] h = refl
empty_is (b ∷ text) h = cc

pub same_bytes : (xs ys : List ℕ) → bytes_eq xs ys ≡ true → xs ≡ ys
same_bytes xs ys h = (bytes_eq-Decides xs ys).0 h

pub too_long : (line : List ℕ) → 2 ^ 20 < length line → is_too_long line ≡ true
too_long line h = grind (arith, nat_tests)

pub not_too_long : (line : List ℕ) → length line ≤ 2 ^ 20 → is_too_long line ≡ false
not_too_long line h = grind (arith, nat_tests)

-- a number has at most 20 digits
pub digits_fit : (n : ℕ) → n < 2 ^ 64 → length (decimal n) ≤ 20
digits_fit n h = length-decimal-le 20 n (omega arith) (omega (arith, h)) h

-- ---- a text whose first byte is no whitespace

pub not_blank : (b : ℕ) (text : List ℕ) → is_whitespace b ≡ false → is_blank (b ∷ text) ≡ false
not_blank b text h = ap (λ v. v && is_blank text) h

pub start_stays : (b : ℕ) (text : List ℕ) → is_whitespace b ≡ false → trim_start (b ∷ text) ≡ b ∷ text
start_stays b text h = ap (λ v. cond v (trim_start text) (b ∷ text)) h

-- ---- whitespace at the beginning

pub blank_prefix : (space text : List ℕ) → is_blank space ≡ true → trim_start (space ++ text) ≡ trim_start text
blank_prefix [] text h = refl
blank_prefix (b ∷ space) text h =
    let parts = and_parts (is_whitespace b) (is_blank space) h in
    ap (λ t. cond t (trim_start (space ++ text)) (b ∷ (space ++ text))) parts.0 ∙ blank_prefix space text parts.1

abbrev pub step_to : ℕ → List ℕ → Bool → Bool → List (List ℕ)
step_to b text v w = cond v (words_of text) (cond w ((b ∷ []) ∷ words_of text) (onto_first b (words_of text)))

pub blank_words : (space text : List ℕ) → is_blank space ≡ true → words_of (space ++ text) ≡ words_of text
blank_words [] text h = refl
blank_words (b ∷ space) text h =
    let parts = and_parts (is_whitespace b) (is_blank space) h in
    ap (λ v. step_to b (space ++ text) v (is_blank (take 1 (space ++ text)))) parts.0 ∙ blank_words space text parts.1

pub blank_no_words : (text : List ℕ) → is_blank text ≡ true → words_of text ≡ []
blank_no_words text h = ap words_of (sym (append-nil text)) ∙ blank_words text [] h

pub take_blank : (text : List ℕ) → is_blank text ≡ true → is_blank (take 1 text) ≡ true
take_blank [] h = refl
take_blank (b ∷ text) h = ap (λ v. v && true) (and_parts (is_whitespace b) (is_blank text) h).0
