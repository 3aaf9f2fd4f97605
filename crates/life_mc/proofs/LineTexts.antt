-- The text of a square is a line that gives the square back.
use Rattle.std.proofs.Common.{◌≡◌, ℕ, ◌*◌, ◌^◌, ◌<◌, ◌≤◌, List, [], ◌∷◌, ◌++◌, length, Bool, true, false, cond, not, ◌&&◌, refl, ap, sym, subst, ◌∙◌, arith, append_assoc, length-append, decimal, ◌==◌, flat_map, map, slice_index, codes, Option, Some, None, leb-true}
use Rattle.std.specs.List.{list_all, AllByRecursion}
use Rattle.std.specs.Char.{is_ascii_digit}
use Rattle.std.proofs.lemmas.Bool.Decides.{nat_tests}
use Rattle.std.proofs.lemmas.Bool.{not-true, and_from}
use Rattle.std.proofs.lemmas.Fmt.{decimal_is_IsNumeral_wide, length-decimal-le_wide}
use Rattle.std.proofs.lemmas.List.Folds.{list_all-append}
use mathlib.Core.Bool.{and-false}
use Rattle.life_base.proofs.Numbers.{own}
use Rattle.life_base.proofs.NamesRead.{all_pass, solid, solid_trimmed}
use Rattle.life_base.proofs.RoundTrip.{none_passes}
use Rattle.life_base.proofs.Texts.{not_blank, start_stays}
use Rattle.life_base.proofs.Basics.{right_of_and, left_of_and}
use Rattle.life_base.specs.Text.{is_whitespace, is_blank, is_empty, begins_with, is_digit_text, value_of, words_of, without_last, trim, trim_start}
use Rattle.life_mc.specs.Reading.{is_leaf, is_leaf_byte, leaf_bytes, square_of_text, quad_of_numbers}
use Rattle.life_mc.specs.Writing.{row_text, line_text}
use Rattle.life_mc.specs.declared.line.Line.{Line}
use Rattle.life_mc.specs.declared.line.Line.TheVariants.{Leaf, Quad}
use Rattle.life_mc.proofs.ReadBack.{has_no_feed, written, row_is_row, leaf_again, word_then, word_alone}

-- What a text needs to be the node line of a square.
pub record IsTextOf (square : Line) (text : List ℕ) : Type 0 where
  pub feed : has_no_feed text ≡ true
  pub short : length text ≤ 2 ^ 20
  pub blank : is_blank text ≡ false
  pub hash : begins_with text (codes "#") ≡ false
  pub trimmed : trim text ≡ text
  pub no_bad_leaf : (is_leaf_byte (slice_index text 0) && not (is_leaf text)) ≡ false
  pub says : square_of_text text ≡ Some square

no_hash : (b : ℕ) (text : List ℕ) → (b == 35) ≡ false → begins_with (b ∷ text) (codes "#") ≡ false
no_hash b text h = ap (λ v. v && true) h

all_of_both : (p : ℕ → Bool) (xs ys : List ℕ) → list_all p xs ≡ true → list_all p ys ≡ true → list_all p (xs ++ ys) ≡ true
all_of_both p xs ys h k = list_all-append p xs ys ∙ and_from _ _ h k

-- a byte that may begin a node line, and no line feed
record IsInner (b : ℕ) : Type 0 where
  solid : not (is_whitespace b) ≡ true
  no_feed : not (b == 10) ≡ true
  no_hash : (b == 35) ≡ false

leaf_inner : (b : ℕ) → is_leaf_byte b ≡ true → IsInner b
leaf_inner b h = record { solid = grind (arith, nat_tests); no_feed = grind (arith, nat_tests); no_hash = grind (arith, nat_tests) }

digit_inner : (b : ℕ) → is_ascii_digit b ≡ true → IsInner b
digit_inner b h = record { solid = grind (arith, nat_tests); no_feed = grind (arith, nat_tests); no_hash = grind (arith, nat_tests) }

-- ---- a leaf

-- rows of at most eight cells and a `$` each
short_rows : (rows : List ℕ) → AllByRecursion (λ row. row < 256) rows → length (flat_map row_text rows) ≤ 9 * length rows
short_rows [] h = omega arith
short_rows (row ∷ rows) h =
    let r : length (written row) ≤ 8 = leb-true (length (written row)) 8 (right_of_and (list_all _ (written row)) _ (row_is_row row h.0)) in
    omega (arith, length-append (row_text row) (flat_map row_text rows), length-append (written row) (codes "$"), short_rows rows h.1)

some_bytes : (rows : List ℕ) → 0 < length rows → 0 < length (flat_map row_text rows)
some_bytes [] h = absurd (omega arith)
some_bytes (row ∷ rows) h = omega (arith, length-append (row_text row) (flat_map row_text rows), length-append (written row) (codes "$"))

leaf_of : (text rows : List ℕ) → 0 < length text → length text ≤ 2 ^ 20 → is_leaf text ≡ true → leaf_bytes text ≡ rows → IsTextOf (Leaf rows) text
leaf_of [] rows some short is says = absurd (omega arith)
leaf_of (b ∷ text) rows some short is says =
    let all : list_all is_leaf_byte (b ∷ text) ≡ true = left_of_and _ _ (left_of_and _ _ is) in
    let one : is_leaf_byte b ≡ true = left_of_and _ _ all in
    record {
      feed = all_pass is_leaf_byte (λ c. not (c == 10)) (λ c l. (leaf_inner c l).no_feed) (b ∷ text) all;
      short = short;
      blank = not_blank b text (not-true (is_whitespace b) (leaf_inner b one).solid);
      hash = no_hash b text (leaf_inner b one).no_hash;
      trimmed = solid_trimmed (b ∷ text) (all_pass is_leaf_byte solid (λ c l. (leaf_inner c l).solid) (b ∷ text) all);
      no_bad_leaf = ap (λ v. is_leaf_byte b && not v) is ∙ and-false (is_leaf_byte b);
      says = by_tests (is_leaf_byte b) (is_leaf (b ∷ text)) _ one is ∙ ap (λ (rs : List ℕ). Some (Leaf rs)) says;
    }
  where
    by_tests : (v w : Bool) (o : Option Line) → v ≡ true → w ≡ true → cond v (cond w (Some (Leaf (leaf_bytes (b ∷ text)))) None) o
        ≡ Some (Leaf (leaf_bytes (b ∷ text)))
    by_tests v w o h k = ap (λ u. cond u (cond w (Some (Leaf (leaf_bytes (b ∷ text)))) None) o) h ∙ ap (λ u. cond u (Some (Leaf (leaf_bytes (b ∷ text)))) None)
        k

pub leaf_text : (rows : List ℕ) → length rows ≡ 8 → AllByRecursion (λ row. row < 256) rows → IsTextOf (Leaf rows) (line_text (Leaf rows))
leaf_text rows e h =
    let r = leaf_again rows e h in
    leaf_of (flat_map row_text rows) rows (some_bytes rows (omega arith)) (omega (arith, short_rows rows h)) r.0 r.1

-- ---- a level and four quarters

-- a text is the digits of a number
record Spells (text : List ℕ) (n : ℕ) : Type 0 where
  digits : is_digit_text text ≡ true
  value : value_of text ≡ n
  short : length text ≤ 64

not_empty : (text : List ℕ) → 0 < length text → not (is_empty text) ≡ true
not_empty [] h = absurd (omega arith)
not_empty (b ∷ text) h = refl

pub decimal_digits : (n : ℕ) → n < 10 ^ 64 → is_digit_text (decimal n) ≡ true
decimal_digits n h =
    let k = decimal_is_IsNumeral_wide n h in
    and_from _ _ (not_empty (decimal n) k.0.0) (own.from (decimal n) k.0.1)

pub decimal_value : (n : ℕ) → n < 10 ^ 64 → value_of (decimal n) ≡ n
decimal_value n h = (decimal_is_IsNumeral_wide n h).1

pub decimal_short : (n : ℕ) → n < 10 ^ 64 → length (decimal n) ≤ 64
decimal_short n h = length-decimal-le_wide 64 n (omega arith) h h

spelled : (n : ℕ) → n < 10 ^ 64 → Spells (decimal n) n
spelled n h = record { digits = decimal_digits n h; value = decimal_value n h; short = decimal_short n h }

digit_no_leaf : (b : ℕ) → is_ascii_digit b ≡ true → is_leaf_byte b ≡ false
digit_no_leaf b h = grind (arith, nat_tests)

pub digits_pass : (p : ℕ → Bool) → ((b : ℕ) → is_ascii_digit b ≡ true → p b ≡ true) → (text : List ℕ) → is_digit_text text ≡ true → list_all p text ≡ true
digits_pass p f text h = all_pass is_ascii_digit p f text (right_of_and (not (is_empty text)) _ h)

digits_solid : (text : List ℕ) → is_digit_text text ≡ true → list_all solid text ≡ true
digits_solid text h = digits_pass solid (λ b d. (digit_inner b d).solid) text h

pub digits_have_no_feed : (text : List ℕ) → is_digit_text text ≡ true → has_no_feed text ≡ true
digits_have_no_feed text h = digits_pass (λ b. not (b == 10)) (λ b d. (digit_inner b d).no_feed) text h

pub digits_trimmed : (text : List ℕ) → is_digit_text text ≡ true → trim text ≡ text
digits_trimmed text h = solid_trimmed text (digits_solid text h)

number_then : (word rest : List ℕ) → is_digit_text word ≡ true → words_of (word ++ 32 ∷ rest) ≡ word ∷ words_of rest
number_then [] rest h = cc
number_then (b ∷ word) rest h = word_then b word rest (digits_solid (b ∷ word) h)

number_alone : (word : List ℕ) → is_digit_text word ≡ true → words_of word ≡ word ∷ []
number_alone [] h = cc
number_alone (b ∷ word) h = word_alone b word (digits_solid (b ∷ word) h)

-- no whitespace stands at the end
record EndsSolid (text : List ℕ) : Type 0 where
  whole : without_last is_whitespace text ≡ text
  some : list_all is_whitespace text ≡ false

number_ends : (word : List ℕ) → is_digit_text word ≡ true → EndsSolid word
number_ends [] h = cc
number_ends (b ∷ word) h =
    let all : list_all solid (b ∷ word) ≡ true = digits_solid (b ∷ word) h in
    record { whole = none_passes is_whitespace (b ∷ word) all; some = not_blank b word (not-true (is_whitespace b) (left_of_and _ _ all)) }

ends_behind : (prefix text : List ℕ) → EndsSolid text → EndsSolid (prefix ++ text)
ends_behind [] text e = e
ends_behind (b ∷ prefix) text e =
    let r = ends_behind prefix text e in
    let some : list_all is_whitespace (b ∷ (prefix ++ text)) ≡ false = ap (λ v. is_whitespace b && v) r.some ∙ and-false (is_whitespace b) in
    record {
      whole = ap (λ v. cond v [] (b ∷ without_last is_whitespace (prefix ++ text))) some ∙ ap (λ (t : List ℕ). b ∷ t) r.whole;
      some = some;
    }

abbrev five : List ℕ → List ℕ → List ℕ → List ℕ → List ℕ → List ℕ
five a b c d e = a ++ 32 ∷ (b ++ 32 ∷ (c ++ 32 ∷ (d ++ 32 ∷ e)))

number_starts : (word rest : List ℕ) → is_digit_text word ≡ true
    → (is_blank (word ++ rest) ≡ false) × (begins_with (word ++ rest) (codes "#") ≡ false) × (trim_start (word ++ rest) ≡ word ++ rest)
    × (is_leaf_byte (slice_index (word ++ rest) 0) ≡ false)
number_starts [] rest h = cc
number_starts (b ∷ word) rest h =
    let one : is_ascii_digit b ≡ true = left_of_and _ _ (right_of_and (not (is_empty (b ∷ word))) _ h) in
    let no : is_whitespace b ≡ false = not-true (is_whitespace b) (digit_inner b one).solid in
    (not_blank b (word ++ rest) no, no_hash b (word ++ rest) (digit_inner b one).no_hash, start_stays b (word ++ rest) no, digit_no_leaf b one)

module _ (a b c d e : List ℕ) (level nw ne sw se : ℕ) (p : Spells a level) (q : Spells b nw) (r : Spells c ne) (s : Spells d sw) (t : Spells e se) where
  abbrev text : List ℕ
  text = five a b c d e

  five_words : words_of text ≡ a ∷ b ∷ c ∷ d ∷ e ∷ []
  five_words =
      number_then a _ p.digits ∙ ap (λ (ws : List (List ℕ)). a ∷ ws) (
      number_then b _ q.digits ∙ ap (λ (ws : List (List ℕ)). b ∷ ws) (
      number_then c _ r.digits ∙ ap (λ (ws : List (List ℕ)). c ∷ ws) (
      number_then d _ s.digits ∙ ap (λ (ws : List (List ℕ)). d ∷ ws) (number_alone e t.digits))))

  five_no_feed : has_no_feed text ≡ true
  five_no_feed =
      all_of_both _ a _ (digits_have_no_feed a p.digits) (all_of_both _ b _ (digits_have_no_feed b q.digits) (
      all_of_both _ c _ (digits_have_no_feed c r.digits) (all_of_both _ d _ (digits_have_no_feed d s.digits) (digits_have_no_feed e t.digits))))

  five_ends : EndsSolid text
  five_ends =
      ends_behind a _ (ends_behind (32 ∷ []) _ (ends_behind b _ (ends_behind (32 ∷ []) _ (ends_behind c _ (ends_behind (32 ∷ []) _ (
      ends_behind d _ (ends_behind (32 ∷ []) e (number_ends e t.digits))))))))

  five_short : length text ≤ 2 ^ 20
  five_short = omega (
    arith,
    p.short,
    q.short,
    r.short,
    s.short,
    t.short,
    length-append a (32 ∷ (b ++ 32 ∷ (c ++ 32 ∷ (d ++ 32 ∷ e)))),
    length-append b (32 ∷ (c ++ 32 ∷ (d ++ 32 ∷ e))),
    length-append c (32 ∷ (d ++ 32 ∷ e)),
    length-append d (32 ∷ e),
  )

  five_square : list_all is_digit_text (words_of text) ≡ true
  five_square = ap (list_all is_digit_text) five_words ∙ rw (p.digits, q.digits, r.digits, s.digits, t.digits) refl

  five_values : quad_of_numbers (map value_of (words_of text)) ≡ Some (Quad level nw ne sw se)
  five_values = ap (λ ws. quad_of_numbers (map value_of ws)) five_words ∙ rw (p.value, q.value, r.value, s.value, t.value) refl

  quad_of_five : IsTextOf (Quad level nw ne sw se) text
  quad_of_five =
      let n = number_starts a (32 ∷ (b ++ 32 ∷ (c ++ 32 ∷ (d ++ 32 ∷ e)))) p.digits in
      record {
        feed = five_no_feed;
        short = five_short;
        blank = n.0;
        hash = n.1;
        trimmed = ap (without_last is_whitespace) n.2 ∙ five_ends.whole;
        no_bad_leaf = ap (λ v. v && not (is_leaf text)) n.3;
        says =
            ap (λ v. cond v (cond (is_leaf text) (Some (Leaf (leaf_bytes text))) None)
            (cond (list_all is_digit_text (words_of text)) (quad_of_numbers (map value_of (words_of text))) None)) n.3
            ∙ ap (λ v. cond v (quad_of_numbers (map value_of (words_of text))) None) five_square ∙ five_values;
      }

regroup : (a b c d e : List ℕ) → a ++ codes " " ++ b ++ codes " " ++ c ++ codes " " ++ d ++ codes " " ++ e ≡ five a b c d e
regroup a b c d e = simp append_assoc refl

pub quad_text : (level nw ne sw se : ℕ) → level < 10 ^ 64 → nw < 10 ^ 64 → ne < 10 ^ 64 → sw < 10 ^ 64 → se < 10 ^ 64
    → IsTextOf (Quad level nw ne sw se) (line_text (Quad level nw ne sw se))
quad_text level nw ne sw se p q r s t =
    subst (IsTextOf (Quad level nw ne sw se)) (sym (regroup (decimal level) (decimal nw) (decimal ne) (decimal sw) (decimal se)))
    (quad_of_five (decimal level) (decimal nw) (decimal ne) (decimal sw) (decimal se) level nw ne sw se (spelled level p) (spelled nw q) (spelled ne r)
    (spelled sw s) (spelled se t))
