-- The written lines are the lines of the text, and the written header is read.
use Rattle.std.proofs.Common.{◌≡◌, ℕ, ◌^◌, ◌<◌, Bool, true, false, not, cond, List, [], ◌∷◌, ◌++◌, refl, ap, ◌∙◌, Some, None, Ok, Option, arith, append_assoc, eqb, decimal, codes, flat_map}
use Rattle.std.specs.List.{list_all}
use Rattle.std.proofs.lemmas.Bool.Decides.{nat_tests}
use Rattle.std.proofs.lemmas.Bool.{and_parts}
use Rattle.life_base.specs.declared.rule.Rule.{Rule}
use Rattle.life_base.specs.Rules.{rule_of, rule_text}
use Rattle.life_base.specs.Text.{is_digit_text, trim_start, lines_of, onto_first}
use Rattle.std.specs.Char.{is_ascii_digit}
use Rattle.life_rle.specs.Items.{after_digits_of}
use Rattle.life_rle.specs.Header.{◌>>=◌, after_word, after_number, rule_part, header_form, rule_in, header_of}
use Rattle.life_rle.specs.Written.{header_text}
use Rattle.life_rle.proofs.Texts.{decimal-is_digit_text, digit-plain, Stops, prefix-stop, behind-stop}

-- no line feed in the line
abbrev pub is_one_line : List ℕ → Bool
is_one_line line = list_all (λ b. not (eqb b 10)) line

lines-feed : (line rest : List ℕ) → is_one_line line ≡ true → lines_of (line ++ 10 ∷ rest) ≡ line ∷ lines_of rest
lines-feed [] rest h = refl
lines-feed (b ∷ line) rest h =
    let parts = and_parts (not (eqb b 10)) (is_one_line line) h in
    let other : eqb b 10 ≡ false = grind (arith, nat_tests) in
    ap (λ t. cond t ([] ∷ lines_of (line ++ 10 ∷ rest)) (onto_first b (lines_of (line ++ 10 ∷ rest)))) other ∙ ap (onto_first b) (lines-feed line rest parts.1)

abbrev pub AreLines : List (List ℕ) → Type 0
AreLines [] = Unit {0}
AreLines (line ∷ rest) = (is_one_line line ≡ true) × AreLines rest

-- lines that are each ended by a line feed are the lines of the text
pub lines-ended : (ls : List (List ℕ)) → AreLines ls → lines_of (flat_map (λ line. line ++ 10 ∷ []) ls) ≡ ls
lines-ended [] h = refl
lines-ended (l ∷ ls) h =
    ap lines_of (append_assoc l (10 ∷ []) (flat_map (λ line. line ++ 10 ∷ []) ls))
    ∙ lines-feed l (flat_map (λ line. line ++ 10 ∷ []) ls) h.0
    ∙ ap (λ rest. l ∷ rest) (lines-ended ls h.1)

digits-trimmed : (digits rest : List ℕ) → is_digit_text digits ≡ true → trim_start (digits ++ rest) ≡ digits ++ rest
digits-trimmed [] rest h = cc
digits-trimmed (d ∷ digits) rest h = ap (λ t. cond t (trim_start (digits ++ rest)) (d ∷ (digits ++ rest)))
    (digit-plain d (and_parts (is_ascii_digit d) (list_all is_ascii_digit digits) h).0).0

pub digits-all : (digits : List ℕ) → is_digit_text digits ≡ true → list_all is_ascii_digit digits ≡ true
digits-all [] h = refl
digits-all (d ∷ digits) h = h

-- a number and what comes after it
after_number-digits : (digits rest : List ℕ) → is_digit_text digits ≡ true → Stops is_ascii_digit rest → after_number (trim_start (digits ++ rest))
    ≡ Some (trim_start rest)
after_number-digits digits rest h s =
    let all = digits-all digits h in
    ap after_number (digits-trimmed digits rest h)
    ∙ ap (λ prefix. cond (is_digit_text prefix) (Some (trim_start (after_digits_of (digits ++ rest)))) None) (prefix-stop is_ascii_digit digits rest all s)
    ∙ ap (λ t. cond t (Some (trim_start (after_digits_of (digits ++ rest)))) None) h
    ∙ ap (λ left. Some (trim_start left)) (behind-stop is_ascii_digit digits rest all s)

abbrev behind_height : Option (List ℕ) → Option (Option (List ℕ))
behind_height found = do
  rest ← found
  rule_part rest

abbrev behind_width : Option (List ℕ) → Option (Option (List ℕ))
behind_width found = do
  rest ← found
  rest ← after_word (codes ",") rest
  rest ← after_word (codes "y") rest
  rest ← after_word (codes "=") rest
  rest ← after_number rest
  rule_part rest

-- the header's text in one row
header-regrouped : (w h r : List ℕ) → ((codes "x = " ++ w) ++ (codes ", y = " ++ h)) ++ (codes ", rule = " ++ r) ≡ codes "x = "
    ++ (w ++ (codes ", y = " ++ (h ++ (codes ", rule = " ++ r))))
header-regrouped w h r = ap (λ t. codes "x = " ++ t)
    (append_assoc w (codes ", y = " ++ h) (codes ", rule = " ++ r) ∙ ap (λ t. w ++ t) (append_assoc (codes ", y = ") h (codes ", rule = " ++ r)))

-- the written header has the form of a header
pub header_form-written : (w h : List ℕ) (r : List ℕ) → is_digit_text w ≡ true → is_digit_text h ≡ true
    → header_form (((codes "x = " ++ w) ++ (codes ", y = " ++ h)) ++ (codes ", rule = " ++ r)) ≡ Some (Some (trim_start r))
header_form-written w h r dw dh =
    ap header_form (header-regrouped w h r)
    ∙ ap behind_width (after_number-digits w (codes ", y = " ++ (h ++ (codes ", rule = " ++ r))) dw refl)
    ∙ ap behind_height (after_number-digits h (codes ", rule = " ++ r) dh refl)

-- and its rule is read, where the rule's text is read and has no whitespace at the beginning
pub header_of-written : (w h : ℕ) (rule : Rule) → w < 2 ^ 64 → h < 2 ^ 64 → trim_start (rule_text rule) ≡ rule_text rule → rule_of (rule_text rule) ≡ Ok rule
    → header_of (header_text w h rule) ≡ Ok rule
header_of-written w h rule sw sh bare law =
    ap rule_in (header_form-written (decimal w) (decimal h) (rule_text rule) (decimal-is_digit_text w sw) (decimal-is_digit_text h sh))
    ∙ ap rule_of bare ∙ law
