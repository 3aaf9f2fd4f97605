-- Where the first word of a text ends.
use Rattle.std.proofs.Common.{◌≡◌, ℕ, suc, ◌+◌, ◌≤◌, List, [], ◌∷◌, length, take, drop, Bool, true, false, not, cond, ◌&&◌, refl, ap, sym, ◌∙◌, arith, ltb, position, Some, None, take_all, take-append-drop, length-append, ltb-false}
use Rattle.std.specs.List.{position_or_len}
use Rattle.std.proofs.lemmas.List.Quantifiers.{position-Some}
use Rattle.std.proofs.lemmas.List.Sums.{position_or_len_is}
use Rattle.std.proofs.lemmas.List.{drop_all}
use Rattle.life_base.specs.Text.{is_empty, is_whitespace, is_blank, trim_start, words_of, onto_first, with_word}
use Rattle.life_base.proofs.Basics.{false_from_none}

skip : (v : Bool) (b : ℕ) (text : List ℕ) → is_whitespace b ≡ v → words_of (trim_start text) ≡ words_of text
    → words_of (cond v (trim_start text) (b ∷ text)) ≡ words_of (b ∷ text)
skip true b text h ih = ih ∙ sym (ap (λ w. cond w (words_of text) (cond (is_blank (take 1 text)) ((b ∷ []) ∷ words_of text) (onto_first b (words_of text)))) h)
skip false b text h ih = refl

pub trimmed_words : (text : List ℕ) → words_of (trim_start text) ≡ words_of text
trimmed_words [] = refl
trimmed_words (b ∷ text) = skip (is_whitespace b) b text refl (trimmed_words text)

-- where the first word ends
abbrev pub ends : List ℕ → ℕ
ends text = position_or_len is_whitespace text

pub further : (b : ℕ) (text : List ℕ) → is_whitespace b ≡ false → ends (b ∷ text) ≡ suc (ends text)
further b text e = ap (λ v. cond (not v) (1 + ends text) 0) e ∙ omega arith

at_once : (b : ℕ) (text : List ℕ) → is_whitespace b ≡ true → ends (b ∷ text) ≡ 0
at_once b text e = ap (λ v. cond (not v) (1 + ends text) 0) e

abbrev cut : ℕ → List ℕ → List (List ℕ)
cut i text = take i text ∷ words_of (drop i text)

word_step : (v : Bool) (b c : ℕ) (text : List ℕ) → is_whitespace c ≡ v → is_whitespace b ≡ false
    → (is_whitespace c ≡ false → words_of (c ∷ text) ≡ cut (ends (c ∷ text)) (c ∷ text))
    → words_of (b ∷ c ∷ text) ≡ cut (ends (b ∷ c ∷ text)) (b ∷ c ∷ text)
word_step true b c text e h ih =
    ap (λ w. cond w (words_of (c ∷ text)) (cond (is_whitespace c && true) ((b ∷ []) ∷ words_of (c ∷ text)) (onto_first b (words_of (c ∷ text))))) h
    ∙ ap (λ w. cond (w && true) ((b ∷ []) ∷ words_of (c ∷ text)) (onto_first b (words_of (c ∷ text)))) e
    ∙ ap (λ i. cut i (b ∷ c ∷ text)) (sym (further b (c ∷ text) h ∙ ap suc (at_once c text e)))
word_step false b c text e h ih =
    ap (λ w. cond w (words_of (c ∷ text)) (cond (is_whitespace c && true) ((b ∷ []) ∷ words_of (c ∷ text)) (onto_first b (words_of (c ∷ text))))) h
    ∙ ap (λ w. cond (w && true) ((b ∷ []) ∷ words_of (c ∷ text)) (onto_first b (words_of (c ∷ text)))) e
    ∙ ap (onto_first b) (ih e)
    ∙ ap (λ i. cut i (b ∷ c ∷ text)) (sym (further b (c ∷ text) h))

first_word : (text : List ℕ) (b : ℕ) → is_whitespace b ≡ false → words_of (b ∷ text) ≡ cut (ends (b ∷ text)) (b ∷ text)
first_word [] b h =
    ap (λ w. cond w [] ((b ∷ []) ∷ [])) h ∙ ap (λ i. cut i (b ∷ [])) (sym (further b [] h))
first_word (c ∷ text) b h = word_step (is_whitespace c) b c text refl h (first_word text c)

-- a text with no whitespace at its beginning
abbrev Starts : List ℕ → Type 0
Starts [] = Unit {0}
Starts (b ∷ text) = is_whitespace b ≡ false

starts_by : (v : Bool) (b : ℕ) (text : List ℕ) → is_whitespace b ≡ v → Starts (trim_start text) → Starts (cond v (trim_start text) (b ∷ text))
starts_by true b text h ih = ih
starts_by false b text h ih = h

starts : (text : List ℕ) → Starts (trim_start text)
starts [] = tt
starts (b ∷ text) = starts_by (is_whitespace b) b text refl (starts text)

words_cut : (text : List ℕ) → Starts text → words_of text ≡ with_word (take (ends text) text) (words_of (drop (ends text) text))
words_cut [] s = refl
words_cut (b ∷ text) s =
    first_word text b s
    ∙ ap (λ i. cut i (b ∷ text)) (further b text s)
    ∙ ap (λ i. with_word (take i (b ∷ text)) (words_of (drop i (b ∷ text)))) (sym (further b text s))

-- the first word of a text, and those after it
pub words_in : (text : List ℕ) (n : ℕ) → ends (trim_start text) ≡ n → words_of text ≡ with_word (take n (trim_start text)) (words_of (drop n (trim_start text)))
words_in text n e =
    let t = trim_start text in
    sym (trimmed_words text) ∙ words_cut t (starts text) ∙ ap (λ j. with_word (take j t) (words_of (drop j t))) e

-- the first word of a text ends at i
pub words_at : (text : List ℕ) (i : ℕ) → position is_whitespace (trim_start text) ≡ Some i
    → words_of text ≡ with_word (take i (trim_start text)) (words_of (drop i (trim_start text)))
words_at text i h =
    let t = trim_start text in
    let p = position-Some is_whitespace t i 0 h in
    words_in text i (position_or_len_is is_whitespace t i 0 (omega (arith, p.0)) p.2 (λ _. p.1))

-- there is one word at most
pub words_without : (text : List ℕ) → position is_whitespace (trim_start text) ≡ None → words_of text ≡ with_word (trim_start text) []
words_without text h =
    let t = trim_start text in
    let l : length t ≤ ends t = ltb-false _ _ (false_from_none (ltb (ends t) (length t)) _ h) in
    let a : take (ends t) t ≡ t = take_all (ends t) t l in
    let b : drop (ends t) t ≡ [] = drop_all (ends t) t l in
    sym (trimmed_words text) ∙ words_cut t (starts text) ∙ ap (λ (x : List ℕ). with_word x (words_of (drop (ends t) t))) a
    ∙ ap (λ (x : List ℕ). with_word t (words_of x)) b

trim_shorter : (v : Bool) (b : ℕ) (text : List ℕ) → length (trim_start text) ≤ length text → length (cond v (trim_start text) (b ∷ text)) ≤ length (b ∷ text)
trim_shorter true b text h = omega arith
trim_shorter false b text h = omega arith

-- a text without the whitespace at its beginning is no longer
pub length-trim_start : (text : List ℕ) → length (trim_start text) ≤ length text
length-trim_start [] = omega arith
length-trim_start (b ∷ text) = trim_shorter (is_whitespace b) b text (length-trim_start text)

-- the two parts of a text at a place
pub split_length : (text : List ℕ) (n : ℕ) → length (take n text) + length (drop n text) ≡ length text
split_length text n = sym (length-append (take n text) (drop n text)) ∙ ap length (take-append-drop n text)

-- a text has no words where it is empty without the whitespace at its beginning
empty_by : (text : List ℕ) → Starts text → is_empty text ≡ is_empty (words_of text)
empty_by [] s = refl
empty_by (b ∷ text) s = sym (ap is_empty (first_word text b s))

pub no_words : (text : List ℕ) → is_empty (trim_start text) ≡ is_empty (words_of text)
no_words text = empty_by (trim_start text) (starts text) ∙ ap is_empty (trimmed_words text)
