-- Words, and the numbers that they write.
use Rattle.std.proofs.Common.{◌≡◌, ℕ, suc, ◌+◌, ◌<◌, List, [], ◌∷◌, length, take, drop, Bool, true, false, cond, not, ◌&&◌, refl, ap, sym, ◌∙◌, arith, Option, Some, None, ◌==◌, take_while}
use Rattle.std.specs.List.{list_all, prefix_len}
use Rattle.std.specs.Char.{is_ascii_digit}
use Rattle.std.proofs.lemmas.Bool.Decides.{nat_tests}
use mathlib.Core.Bool.{and-true, and-false}
use Rattle.life_base.proofs.PrefixDigits.{digit_text_in_prefix}
use Rattle.life_base.proofs.WordEnds.{ends, further, words_in}
use Rattle.life_base.proofs.Basics.{left_of_and}
use Rattle.life_base.specs.Numbers.{capped_number}
use Rattle.life_base.specs.Text.{is_empty, is_blank, is_whitespace, trim_start, words_of, is_digit_text, value_of, with_word}
use Rattle.life_mc.specs.Standing.{begins_with_number, quad_words}
use Rattle.life_mc.specs.declared.line.Line.{Line}
use Rattle.life_mc.specs.declared.line.Line.TheVariants.{Quad}

-- ---- the first number

pub no_number : (word : List ℕ) (words : List (List ℕ)) → is_digit_text word ≡ false → begins_with_number (with_word word words) ≡ false
no_number [] words h = refl
no_number (b ∷ word) words h = h

pub number_word : (word : List ℕ) (words : List (List ℕ)) → is_digit_text word ≡ true → with_word word words ≡ word ∷ words
number_word [] words h = cc
number_word (b ∷ word) words h = refl

-- how many digits are at the beginning
abbrev pub digits : List ℕ → ℕ
digits text = prefix_len is_ascii_digit text

-- what comes after the digits at the beginning
abbrev pub behind : List ℕ → List ℕ
behind text = drop (digits text) text

pub digit_no_space : (b : ℕ) → is_ascii_digit b ≡ true → is_whitespace b ≡ false
digit_no_space b h = grind (arith, nat_tests)

whole_step : (v : Bool) (b : ℕ) (text : List ℕ) → is_ascii_digit b ≡ v → (is_blank (take 1 (behind text)) ≡ true → ends text ≡ digits text)
    → is_blank (take 1 (drop (cond v (1 + digits text) 0) (b ∷ text))) ≡ true → ends (b ∷ text) ≡ cond v (1 + digits text) 0
whole_step true b text e ih h =
    let k : 1 + digits text ≡ suc (digits text) = omega arith in
    ap (λ v. cond (not v) (1 + ends text) 0) (digit_no_space b e) ∙ ap (λ n. 1 + n) (ih (rw k at h))
whole_step false b text e ih h = ap (λ v. cond (not v) (1 + ends text) 0) (left_of_and (is_whitespace b) true h)

-- where a word ends after the digits, it is these digits
whole_word : (text : List ℕ) → is_blank (take 1 (behind text)) ≡ true → ends text ≡ digits text
whole_word [] h = refl
whole_word (b ∷ text) h = whole_step (is_ascii_digit b) b text refl (whole_word text) h

other_step : (v : Bool) (b : ℕ) (text : List ℕ) → is_ascii_digit b ≡ v
    → (is_blank (take 1 (behind text)) ≡ false → list_all is_ascii_digit (take (ends text) text) ≡ false)
    → is_blank (take 1 (drop (cond v (1 + digits text) 0) (b ∷ text))) ≡ false → list_all is_ascii_digit (take (ends (b ∷ text)) (b ∷ text)) ≡ false
other_step true b text e ih h =
    let k : 1 + digits text ≡ suc (digits text) = omega arith in
    ap (λ j. list_all is_ascii_digit (take j (b ∷ text))) (further b text (digit_no_space b e)) ∙ ap (λ v. is_ascii_digit b && v) (ih (rw k at h))
    ∙ and-false (is_ascii_digit b)
other_step false b text e ih h =
    ap (λ j. list_all is_ascii_digit (take j (b ∷ text))) (further b text (sym (and-true (is_whitespace b)) ∙ h))
    ∙ ap (λ v. v && list_all is_ascii_digit (take (ends text) text)) e

-- where it goes on, it has another byte
other_word : (text : List ℕ) → is_blank (take 1 (behind text)) ≡ false → list_all is_ascii_digit (take (ends text) text) ≡ false
other_word [] h = cc
other_word (b ∷ text) h = other_step (is_ascii_digit b) b text refl (other_word text) h

-- the first word goes on after the digits
pub goes_on : (text : List ℕ) → is_blank (take 1 (behind (trim_start text))) ≡ false → begins_with_number (words_of text) ≡ false
goes_on text h =
    let t = trim_start text in
    let word = take (ends t) t in
    ap begins_with_number (words_in text (ends t) refl)
    ∙ no_number word _ (ap (λ v. not (is_empty word) && v) (other_word t h) ∙ and-false (not (is_empty word)))

-- the first word begins with no digit
pub no_digit : (text : List ℕ) → digits (trim_start text) ≡ 0 → begins_with_number (words_of text) ≡ false
no_digit text e = by (is_blank (take 1 (behind (trim_start text)))) refl
  where
    by : (v : Bool) → is_blank (take 1 (behind (trim_start text))) ≡ v → begins_with_number (words_of text) ≡ false
    by true h = ap begins_with_number (words_in text 0 (whole_word (trim_start text) h ∙ e))
    by false h = goes_on text h

-- the first word is a digit text
pub digits_end : (text : List ℕ) → 0 < digits (trim_start text) → is_blank (take 1 (behind (trim_start text))) ≡ true
    → words_of text ≡ take_while is_ascii_digit (trim_start text) ∷ words_of (behind (trim_start text))
digits_end text h e =
    let t = trim_start text in
    words_in text (digits t) (whole_word t e) ∙ number_word (take_while is_ascii_digit t) _ (digit_text_in_prefix t h)

-- ---- five numbers

either : (v : Bool) → (let o : Option Line = None in cond v o None) ≡ None
either true = refl
either false = refl

no_five : (a b c d : List ℕ) (rest : List (List ℕ)) → begins_with_number rest ≡ false → quad_words (a ∷ b ∷ c ∷ d ∷ rest) ≡ None
no_five a b c d [] h = either (list_all is_digit_text (a ∷ b ∷ c ∷ d ∷ []))
no_five a b c d (e ∷ rest) h = rw (h, and-false, and-false, and-false, and-false) refl

more_than_five : (a b c d e : List ℕ) (rest : List (List ℕ)) → is_empty rest ≡ false → quad_words (a ∷ b ∷ c ∷ d ∷ e ∷ rest) ≡ None
more_than_five a b c d e [] h = cc
more_than_five a b c d e (f ∷ rest) h = either (list_all is_digit_text (a ∷ b ∷ c ∷ d ∷ e ∷ f ∷ rest))

abbrev pub all_five : List ℕ → List ℕ → List ℕ → List ℕ → List ℕ → Option Line
all_five a b c d e = Some (Quad (capped_number (value_of a)) (capped_number (value_of b)) (capped_number (value_of c)) (capped_number (value_of d))
    (capped_number (value_of e)))

just_five : (a b c d e : List ℕ) (rest : List (List ℕ)) → is_empty rest ≡ true → is_digit_text a ≡ true → is_digit_text b ≡ true → is_digit_text c ≡ true
    → is_digit_text d ≡ true → is_digit_text e ≡ true → quad_words (a ∷ b ∷ c ∷ d ∷ e ∷ rest) ≡ all_five a b c d e
just_five a b c d e [] h p q r s t = rw (p, q, r, s, t) refl
just_five a b c d e (f ∷ rest) h p q r s t = cc

-- one word more at the beginning
onto : {words more : List (List ℕ)} (word : List ℕ) → words ≡ more → word ∷ words ≡ word ∷ more
onto word h = ap (λ (t : List (List ℕ)). word ∷ t) h

-- words that were found one after another
pub four_in_prefix : {ws after_a after_b after_c after_d : List (List ℕ)} {a b c d : List ℕ}
    → ws ≡ a ∷ after_a → after_a ≡ b ∷ after_b → after_b ≡ c ∷ after_c → after_c ≡ d ∷ after_d → ws ≡ a ∷ b ∷ c ∷ d ∷ after_d
four_in_prefix {a} {b} {c} p q r s = p ∙ onto a (q ∙ onto b (r ∙ onto c s))

pub five_in_prefix : {ws after_a after_b after_c after_d after_e : List (List ℕ)} {a b c d e : List ℕ}
    → ws ≡ a ∷ after_a → after_a ≡ b ∷ after_b → after_b ≡ c ∷ after_c → after_c ≡ d ∷ after_d → after_d ≡ e ∷ after_e → ws ≡ a ∷ b ∷ c ∷ d ∷ e ∷ after_e
five_in_prefix {a} {b} {c} {d} p q r s t = four_in_prefix p q r s ∙ onto a (onto b (onto c (onto d t)))

pub quad_short : (t a b c d : List ℕ) (ws : List (List ℕ)) → ws ≡ a ∷ b ∷ c ∷ d ∷ words_of t → begins_with_number (words_of t) ≡ false → quad_words ws ≡ None
quad_short t a b c d ws h n = ap quad_words h ∙ no_five a b c d (words_of t) n

pub quad_long : (a b c d e : List ℕ) (ws rest : List (List ℕ)) → ws ≡ a ∷ b ∷ c ∷ d ∷ e ∷ rest → is_empty rest ≡ false → quad_words ws ≡ None
quad_long a b c d e ws rest h n = ap quad_words h ∙ more_than_five a b c d e rest n

pub quad_whole : (a b c d e : List ℕ) (ws rest : List (List ℕ)) → ws ≡ a ∷ b ∷ c ∷ d ∷ e ∷ rest → is_empty rest ≡ true → is_digit_text a ≡ true
    → is_digit_text b ≡ true → is_digit_text c ≡ true
    → is_digit_text d ≡ true → is_digit_text e ≡ true → quad_words ws ≡ all_five a b c d e
quad_whole a b c d e ws rest h n p q r s t = ap quad_words h ∙ just_five a b c d e rest n p q r s t

pub length_zero : (text : List ℕ) → (length text == 0) ≡ is_empty text
length_zero [] = refl
length_zero (b ∷ text) = grind (arith, nat_tests)
