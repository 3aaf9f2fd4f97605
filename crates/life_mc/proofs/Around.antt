-- Lines and their parts: what stands at the beginning, between whitespace, and word by word.
use Rattle.std.proofs.Common.{◌≡◌, ℕ, List, [], ◌∷◌, ◌++◌, length, take, drop, Bool, true, false, cond, ◌&&◌, refl, ap, sym, ◌∙◌, true≢false, not, arith, codes, slice_index, None, take-append-drop, append-nil}
use mathlib.Core.Bool.{and-false}
use Rattle.std.specs.List.{list_all}
use Rattle.std.specs.Char.{is_ascii_digit}
use Rattle.std.proofs.Math.Seq.{take-append_seam}
use Rattle.std.proofs.lemmas.Slice.Eq.{bytes_eq-Decides}
use Rattle.std.proofs.lemmas.Bool.Decides.{nat_tests}
use Rattle.std.proofs.lemmas.Bool.{not-true}
use Rattle.life_base.specs.Text.{is_whitespace, is_blank, begins_with, trim, trim_start, trim_end, words_of, onto_first, is_digit_text}
use Rattle.life_base.proofs.NamesRead.{solid}
use Rattle.life_mc.specs.Grammar.{Begins, IsCommand, Separates}
use Rattle.life_mc.specs.Reading.{is_letter_command, is_leaf_byte, square_on, square_of_text}
use Rattle.life_base.proofs.WordEnds.{trimmed_words}
use Rattle.life_base.proofs.Basics.{right_of_and, left_of_and}
use Rattle.life_base.proofs.Texts.{blank_prefix, step_to, blank_words, blank_no_words, take_blank}

-- ---- at the beginning

pub begins : (prefix line : List ℕ) → begins_with line prefix ≡ true → Begins prefix line
begins prefix line h = (
  drop (length prefix) line,
  sym (take-append-drop (length prefix) line)
      ∙ ap (λ (t : List ℕ). t ++ drop (length prefix) line) ((bytes_eq-Decides (take (length prefix) line) prefix).0 h),
)

pub begun : (prefix line : List ℕ) → Begins prefix line → begins_with line prefix ≡ true
begun prefix line b = (bytes_eq-Decides (take (length prefix) line) prefix).1 (ap (take (length prefix)) b.1 ∙ take-append_seam prefix b.0)

pub commands : (letter : ℕ) (line : List ℕ) → is_letter_command letter line ≡ true → IsCommand (35 ∷ letter ∷ []) (drop 2 line) line
commands letter line h = (
  sym (take-append-drop 2 line) ∙ ap (λ (t : List ℕ). t ++ drop 2 line)
      ((bytes_eq-Decides (take 2 line) (35 ∷ letter ∷ [])).0 (left_of_and (begins_with line (35 ∷ letter ∷ [])) _ h)),
  right_of_and (begins_with line (35 ∷ letter ∷ [])) _ h,
)

pub commanded : (letter : ℕ) (rest line : List ℕ) → IsCommand (35 ∷ letter ∷ []) rest line → is_letter_command letter line ≡ true
commanded letter rest line c =
    ap (is_letter_command letter) c.0 ∙ ap (λ v. v && is_blank (take 1 rest)) ((bytes_eq-Decides (35 ∷ letter ∷ []) (35 ∷ letter ∷ [])).1 refl) ∙ c.1

pub behind_command : (letter : ℕ) (rest line : List ℕ) → IsCommand (35 ∷ letter ∷ []) rest line → drop 2 line ≡ rest
behind_command letter rest line c = ap (drop 2) c.0

-- ---- between whitespace

end_split : (text : List ℕ) → (behind : List ℕ) × (text ≡ trim_end text ++ behind) × (is_blank behind ≡ true)
end_split [] = ([], refl, refl)
end_split (b ∷ text) = by (is_blank (b ∷ text)) refl (end_split text)
  where
    by : (v : Bool) → is_blank (b ∷ text) ≡ v → (behind : List ℕ) × (text ≡ trim_end text ++ behind) × (is_blank behind ≡ true)
        → (behind : List ℕ) × (b ∷ text ≡ cond v [] (b ∷ trim_end text) ++ behind) × (is_blank behind ≡ true)
    by true e s = (b ∷ text, refl, e)
    by false e s = (s.0, ap (λ (t : List ℕ). b ∷ t) s.1, s.2)

pub blank_trimmed : (line : List ℕ) → is_blank line ≡ true → trim line ≡ []
blank_trimmed line h = ap trim (sym (append-nil line)) ∙ ap trim_end (blank_prefix line [] h)

-- ---- words

same_take : (text behind : List ℕ) → is_blank behind ≡ true → is_blank (take 1 (text ++ behind)) ≡ is_blank (take 1 text)
same_take [] behind h = take_blank behind h
same_take (b ∷ text) behind h = refl

words_back : (text behind : List ℕ) → is_blank behind ≡ true → words_of (text ++ behind) ≡ words_of text
words_back [] behind h = blank_no_words behind h
words_back (b ∷ text) behind h =
    ap (λ w. step_to b (text ++ behind) (is_whitespace b) w) (same_take text behind h)
    ∙ ap (λ (ws : List (List ℕ)). cond (is_whitespace b) ws (cond (is_blank (take 1 text)) ((b ∷ []) ∷ ws) (onto_first b ws))) (words_back text behind h)

-- the words of a line are those of its trimmed text
pub words_trimmed : (line : List ℕ) → words_of (trim line) ≡ words_of line
words_trimmed line =
    let e = end_split (trim_start line) in
    sym (words_back (trim line) e.0 e.2) ∙ ap words_of (sym e.1) ∙ trimmed_words line

pub first_word : (b : ℕ) (word rest : List ℕ) → list_all solid (b ∷ word) ≡ true → is_blank (take 1 rest) ≡ true
    → words_of ((b ∷ word) ++ rest) ≡ (b ∷ word) ∷ words_of rest
first_word b [] rest h k =
    ap (λ v. step_to b rest v (is_blank (take 1 rest))) (not-true (is_whitespace b) (left_of_and (solid b) _ h)) ∙ ap (λ w. step_to b rest false w) k
first_word b (c ∷ word) rest h k =
    let more : list_all solid (c ∷ word) ≡ true = right_of_and (solid b) _ h in
    ap (λ v. step_to b (c ∷ (word ++ rest)) v (is_whitespace c && true)) (not-true (is_whitespace b) (left_of_and (solid b) _ h))
    ∙ ap (λ v. step_to b (c ∷ (word ++ rest)) false (v && true)) (not-true (is_whitespace c) (left_of_and (solid c) _ more))
    ∙ ap (onto_first b) (first_word c word rest more k)

digit_solid : (b : ℕ) → is_ascii_digit b ≡ true → solid b ≡ true
digit_solid b h = grind (arith, nat_tests)

pub digits_solid : (text : List ℕ) → list_all is_ascii_digit text ≡ true → list_all solid text ≡ true
digits_solid [] h = refl
digits_solid (b ∷ text) h = ap (λ v. v && list_all solid text) (digit_solid b (left_of_and (is_ascii_digit b) _ h))
    ∙ digits_solid text (right_of_and (is_ascii_digit b) _ h)

digit_word : (text rest : List ℕ) → is_digit_text text ≡ true → is_blank (take 1 rest) ≡ true → words_of (text ++ rest) ≡ text ∷ words_of rest
digit_word [] rest h k = cc
digit_word (b ∷ text) rest h k = first_word b text rest (digits_solid (b ∷ text) h) k

-- digit texts between whitespace are the words
pub separated_words : (texts : List (List ℕ)) (line : List ℕ) → list_all is_digit_text texts ≡ true → Separates texts line → words_of line ≡ texts
separated_words [] line d s = blank_no_words line s
separated_words (text ∷ texts) line d s =
    ap words_of s.2 ∙ blank_words s.0 (text ++ s.1) s.3 ∙ digit_word text s.1 (left_of_and (is_digit_text text) _ d) s.4
    ∙ ap (λ (ws : List (List ℕ)). text ∷ ws) (separated_words texts s.1 (right_of_and (is_digit_text text) _ d) s.5)

one_blank : (b : ℕ) (texts : List (List ℕ)) (text : List ℕ) → is_whitespace b ≡ true → Separates texts text → Separates texts (b ∷ text)
one_blank b [] text h s = ap (λ v. v && is_blank text) h ∙ s
one_blank b (t ∷ texts) text h s = (b ∷ s.0, s.1, ap (λ (u : List ℕ). b ∷ u) s.2, ap (λ v. v && is_blank s.0) h ∙ s.3, s.4, s.5)

one_byte : (b : ℕ) (texts : List (List ℕ)) (text : List ℕ) → is_blank (take 1 text) ≡ false → Separates texts text → Separates (onto_first b texts) (b ∷ text)
one_byte b [] text h s = absurd (true≢false (sym (take_blank text s) ∙ h))
one_byte b (t ∷ texts) text h s = by s.0 s.2 s.3
  where
    by : (before : List ℕ) → text ≡ before ++ (t ++ s.1) → is_blank before ≡ true → Separates ((b ∷ t) ∷ texts) (b ∷ text)
    by [] e w = ([], s.1, ap (λ (u : List ℕ). b ∷ u) e, refl, s.4, s.5)
    by (c ∷ before) e w =
        absurd (true≢false (sym (ap (λ v. v && true) (left_of_and (is_whitespace c) _ w)) ∙ sym (ap (λ (u : List ℕ). is_blank (take 1 u)) e) ∙ h))

step_word : (b : ℕ) (text : List ℕ) (v w : Bool) → is_whitespace b ≡ v → is_blank (take 1 text) ≡ w → Separates (words_of text) text
    → Separates (step_to b text v w) (b ∷ text)
step_word b text true w h k s = one_blank b (words_of text) text h s
step_word b text false true h k s = ([], text, refl, refl, k, s)
step_word b text false false h k s = one_byte b (words_of text) text k s

-- the words of a line stand between whitespace
pub words_separate : (line : List ℕ) → Separates (words_of line) line
words_separate [] = refl
words_separate (b ∷ text) = step_word b text (is_whitespace b) (is_blank (take 1 text)) refl refl (words_separate text)

-- ---- the first byte of numbers

no_digit : (c : ℕ) (text : List ℕ) (w : Bool) → is_ascii_digit c ≡ false → list_all is_digit_text (step_to c text false w) ≡ false
no_digit c text true h = ap (λ v. (v && true) && list_all is_digit_text (words_of text)) h
no_digit c text false h = onto (words_of text)
  where
    onto : (ws : List (List ℕ)) → list_all is_digit_text (onto_first c ws) ≡ false
    onto [] = ap (λ v. (v && true) && true) h
    onto (word ∷ ws) = ap (λ v. (v && list_all is_ascii_digit word) && list_all is_digit_text ws) h

-- a text whose first byte is no whitespace and no digit isn't numbers
pub not_numbers : (c : ℕ) (text : List ℕ) → is_whitespace c ≡ false → is_ascii_digit c ≡ false → list_all is_digit_text (words_of (c ∷ text)) ≡ false
not_numbers c text w h = ap (λ v. list_all is_digit_text (step_to c text v (is_blank (take 1 text)))) w ∙ no_digit c text (is_blank (take 1 text)) h

leaf_byte_solid : (c : ℕ) → is_leaf_byte c ≡ true → is_whitespace c ≡ false
leaf_byte_solid c h = grind (arith, nat_tests)

leaf_byte_no_digit : (c : ℕ) → is_leaf_byte c ≡ true → is_ascii_digit c ≡ false
leaf_byte_no_digit c h = grind (arith, nat_tests)

-- numbers don't begin as a leaf
pub numbers_first : (text : List ℕ) → list_all is_digit_text (words_of text) ≡ true → is_leaf_byte (slice_index text 0) ≡ false
numbers_first [] h = refl
numbers_first (c ∷ text) h = by (is_leaf_byte c) refl
  where
    by : (v : Bool) → is_leaf_byte c ≡ v → v ≡ false
    by false e = refl
    by true e = absurd (true≢false (sym h ∙ not_numbers c text (leaf_byte_solid c e) (leaf_byte_no_digit c e)))

-- a line that begins with `#` has no numbers
pub hash_no_numbers : (line : List ℕ) → begins_with line (codes "#") ≡ true → list_all is_digit_text (words_of line) ≡ false
hash_no_numbers line h = let b = begins (codes "#") line h in ap (λ l. list_all is_digit_text (words_of l)) b.1 ∙ not_numbers 35 b.0 refl refl

-- the trimmed text of a line that begins with `#` begins so
pub hash_trimmed : (line : List ℕ) → begins_with line (codes "#") ≡ true → slice_index (trim line) 0 ≡ 35
hash_trimmed line h = let b = begins (codes "#") line h in ap (λ l. slice_index (trim l) 0) b.1

-- and it is no node line
pub hash_no_square : (line : List ℕ) → begins_with line (codes "#") ≡ true → square_on line ≡ None
hash_no_square line h = ap (λ v. cond (not (is_blank line) && not v) (square_of_text (trim line)) None) h
    ∙ ap (λ v. cond v (square_of_text (trim line)) None) (and-false (not (is_blank line)))
