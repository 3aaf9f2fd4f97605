-- The format of an input is that of its first line.
use Rattle.std.proofs.Common.{◌≡◌, ℕ, suc, List, [], ◌∷◌, length, take, Bool, true, false, cond, ◌&&◌, ◌||◌, refl, ap, ◌∙◌, sym, inl, inr, arith, ◌==◌, bytes_eq}
use Rattle.std.proofs.lemmas.Bool.Decides.{nat_tests}
use Rattle.std.proofs.lemmas.Bool.{or_parts, cases_Bool}
use Rattle.life_base.specs.Text.{lines_of, onto_first}

abbrev pub first_line_of : List (List ℕ) → List ℕ
first_line_of [] = []
first_line_of (line ∷ lines) = line

abbrev pub has_feed : List ℕ → Bool
has_feed [] = false
has_feed (b ∷ text) = (b == 10) || has_feed text

feed_free : (b c : ℕ) → (b == 10) ≡ true → (c == 10) ≡ false → (b == c) ≡ false
feed_free b c e f = grind (arith, nat_tests)

onto : (b : ℕ) (lines : List (List ℕ)) → first_line_of (onto_first b lines) ≡ b ∷ first_line_of lines
onto b [] = refl
onto b (line ∷ lines) = refl

-- bytes begin with a text without a line feed exactly if their first line does
pub begins_line : (word bytes : List ℕ) → has_feed word ≡ false
    → bytes_eq (take (length word) bytes) word ≡ bytes_eq (take (length word) (first_line_of (lines_of bytes))) word
begins_line [] bytes h = refl
begins_line (c ∷ word) [] h = refl
begins_line (c ∷ word) (b ∷ bytes) h = elim (cases_Bool (b == 10)) [
  | inl e ↦
      ap (λ v. v && bytes_eq (take (length word) bytes) word) (feed_free b c e (or_parts (c == 10) (has_feed word) h).0)
      ∙ sym (ap (λ v. bytes_eq (take (suc (length word)) (first_line_of (cond v ([] ∷ lines_of bytes) (onto_first b (lines_of bytes))))) (c ∷ word)) e)
  | inr e ↦
      ap (λ v. (b == c) && v) (begins_line word bytes (or_parts (c == 10) (has_feed word) h).1)
      ∙ sym (ap (λ v. bytes_eq (take (suc (length word)) (first_line_of (cond v ([] ∷ lines_of bytes) (onto_first b (lines_of bytes))))) (c ∷ word)) e
      ∙ ap (λ (t : List ℕ). bytes_eq (take (suc (length word)) t) (c ∷ word)) (onto b (lines_of bytes)))
]
