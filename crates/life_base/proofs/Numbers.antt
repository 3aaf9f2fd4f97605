-- Digit texts as the library reads them.
use Rattle.std.proofs.Common.{◌≡◌, ℕ, zero, suc, ◌<◌, ◌≤◌, ◌^◌, ◌-◌, List, [], ◌∷◌, length, get_or, Bool, true, false, not, cond, leb, refl, ap, sym, ◌∙◌, arith, rules, ◌==◌, Result, Ok, Err}
use Rattle.std.specs.List.{list_all}
use Rattle.std.specs.Char.{is_ascii_digit}
use Rattle.std.specs.Str.{IsUtf8}
use Rattle.std.specs.Str.Parse.{digits_value, ParsesUnsigned}
use Rattle.std.proofs.lemmas.Str.{IsUtf8-from_ascii}
use Rattle.std.proofs.lemmas.Str.Parse.{IsNumeralModel, numerals_by_value, parse_digits}
use Rattle.std.proofs.lemmas.Bool.{lt-leb}
use Rattle.std.proofs.lemmas.Bool.Decides.{nat_tests}
use Rattle.std.proofs.lemmas.Result.{OkIff-at_err}
use Rattle.life_base.specs.Text.{is_empty, is_digit_text, value_of}
use Rattle.life_base.specs.Numbers.{u64_of, number_up_to}
use Rattle.life_base.specs.declared.kind.Kind.{Kind}
use Rattle.life_base.specs.declared.kind.Kind.TheVariants.{BadNumber, TooLarge}
use Rattle.life_base.proofs.Basics.{right_of_and, left_of_and}

pub own : IsNumeralModel (λ ds. list_all is_ascii_digit ds ≡ true) (digits_value 10)
own = numerals_by_value _ (search rules)

low : (d : ℕ) → is_ascii_digit d ≡ true → d < 128
low d h = grind (arith, nat_tests)

ascii : (ds : List ℕ) → list_all is_ascii_digit ds ≡ true → (i : ℕ) → get_or ds i 0 < 128
ascii [] h i = omega arith
ascii (d ∷ ds) h zero = low d (left_of_and _ _ h)
ascii (d ∷ ds) h (suc i) = ascii ds (right_of_and _ _ h) i

pub digit_text_is_utf8 : (text : List ℕ) → is_digit_text text ≡ true → IsUtf8 text
digit_text_is_utf8 text h = IsUtf8-from_ascii text (ascii text (right_of_and (not (is_empty text)) _ h))

abbrev chosen : List ℕ → Bool → Result ℕ Kind
chosen text v = cond v (Ok (value_of text)) (Err TooLarge)

abbrev checked : List ℕ → Bool → Result ℕ Kind
checked text v = cond (not v) (Err BadNumber) (chosen text (leb (value_of text) (2 ^ 64 - 1)))

too_large_lem : (text : List ℕ) → is_digit_text text ≡ true → 2 ^ 64 ≤ value_of text → Err TooLarge ≡ u64_of text
too_large_lem text h big =
    let b : leb (value_of text) (2 ^ 64 - 1) ≡ false = lt-leb _ _ (omega arith) in
    ap (chosen text) (sym b) ∙ ap (checked text) (sym h)

not_empty : (text : List ℕ) → not (is_empty text) ≡ true → 0 < length text
not_empty [] h = cc
not_empty (b ∷ text) h = omega arith

not_less : (m n : ℕ) → (m < n → ⊥) → n ≤ m
not_less m n h = omega (arith, h)

pub too_large : {E : Type 0} (text : List ℕ) (r : Result ℕ E) (e : E) → is_digit_text text ≡ true → ParsesUnsigned 64 10 text r → r ≡ Err e
    → Err TooLarge ≡ u64_of text
too_large text r e h p is =
    let all : list_all is_ascii_digit text ≡ true = right_of_and (not (is_empty text)) _ h in
    let some : 0 < length text = not_empty text (left_of_and _ (list_all is_ascii_digit text) h) in
    let n : (0 < length text) × (value_of text < 2 ^ 64) → ⊥ = OkIff-at_err r _ _ e (parse_digits own 64 text r p all) is in
    too_large_lem text h (not_less (value_of text) (2 ^ 64) (λ l. n (some, l)))

pub not_zero : (n : ℕ) → (n == 0) ≡ false → 0 < n
not_zero n h = grind (arith, nat_tests)

refused_by : (v : ℕ) (kind : Kind) (b c : Bool) → (b ≡ false → c ≡ false) → cond b (Ok v) (Err TooLarge) ≡ Err kind → Err kind ≡ cond c (Ok v) (Err TooLarge)
refused_by v kind true c f h = cc
refused_by v kind false c f h = sym h ∙ ap (λ z. cond z (Ok v) (Err TooLarge)) (sym (f refl))

not_above : (v most big : ℕ) → most ≤ big → leb v big ≡ false → leb v most ≡ false
not_above v most big le h = grind (arith, nat_tests)

refused_when : (d : Bool) (v most big : ℕ) (kind : Kind) → most ≤ big
    → cond (not d) (Err BadNumber) (cond (leb v big) (Ok v) (Err TooLarge)) ≡ Err kind
    → Err kind ≡ cond (not d) (Err BadNumber) (cond (leb v most) (Ok v) (Err TooLarge))
refused_when false v most big kind le h = sym h
refused_when true v most big kind le h = refused_by v kind (leb v big) (leb v most) (not_above v most big le) h

-- what is refused below a greatest number is refused below each smaller one
pub refused_below : (text : List ℕ) (most big : ℕ) (kind : Kind) → most ≤ big → number_up_to big text ≡ Err kind → Err kind ≡ number_up_to most text
refused_below text most big kind le h = refused_when (is_digit_text text) (value_of text) most big kind le h
