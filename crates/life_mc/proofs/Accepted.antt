-- What the bytes of a file say is valid.
use Rattle.std.proofs.Common.{◌≡◌, ℕ, suc, ◌-◌, ◌^◌, ◌<◌, List, [], ◌∷◌, length, take, drop, get_or, map, Bool, true, false, cond, not, ◌&&◌, ◌||◌, refl, ap, sym, subst, ◌∙◌, arith, eqb-true, codes, nat_le, nat_lt, ◌==◌, Option, Some, None, Result, Ok, Err, filter_map, leb-true}
use Rattle.std.specs.List.{cons_option}
use Rattle.std.specs.Result.{result_ok, result_err}
use Rattle.life_base.proofs.RuleValues.{rule_values, default_is_rule}
use Rattle.life_base.proofs.Basics.{right_of_and, left_of_and}
use Rattle.life_base.specs.Numbers.{u64_of}
use Rattle.life_base.specs.Rules.{rule_of, default_rule, IsRule}
use Rattle.life_base.specs.Text.{begins_with, is_blank, is_digit_text, is_too_long, is_whitespace, lines_of, trim, value_of}
use Rattle.life_base.specs.declared.kind.Kind.{Kind}
use Rattle.life_base.specs.declared.kind.Kind.TheVariants.{BadNumber, LateHeader, LineTooLong, Timeline, TooLarge}
use Rattle.life_base.specs.declared.rule.Rule.{Rule}
use Rattle.life_mc.specs.Accepted.{MacrocellsAreValid, LinesAreValid}
use Rattle.life_mc.specs.Macrocell.{AreSquares, level_of}
use Rattle.life_mc.specs.Reading.{broken_rule, broken_rule_after, broken_by_node, generation_in_force, generation_on, is_letter_command, last_or, rule_in_force, rule_on, squares_of}
use Rattle.life_mc.specs.declared.line.Line.{Line}
use Rattle.life_mc.proofs.NodeLines.{passed}
use Rattle.life_mc.proofs.Valid.{squares_valid}

-- ---- the rule

rule_said : (line : List ℕ) (rule : Rule) → rule_on line ≡ Some rule → IsRule rule
rule_said line rule h = by (is_letter_command 82 line) (rule_of (drop 2 line)) refl h
  where
    by : (v : Bool) (r : Result Rule Kind) → rule_of (drop 2 line) ≡ r → cond v (result_ok r) None ≡ Some rule → IsRule rule
    by true (Ok said) e k = let same : said ≡ rule = cc in rule_values (drop 2 line) rule (e ∙ ap Ok same)
    by true (Err kind) e k = cc
    by false r e k = cc

last_rule : (lines : List (List ℕ)) (rule : Rule) → IsRule rule → IsRule (last_or rule (filter_map rule_on lines))
last_rule [] rule h = h
last_rule (line ∷ lines) rule h = by (rule_on line) refl (λ r k. last_rule lines r k)
  where
    by : (o : Option Rule) → rule_on line ≡ o → ((r : Rule) → IsRule r → IsRule (last_or r (filter_map rule_on lines)))
        → IsRule (last_or rule (cons_option o (filter_map rule_on lines)))
    by None e more = more rule h
    by (Some said) e more = more said (rule_said line said e)

rule_valid : (lines : List (List ℕ)) → IsRule (rule_in_force lines)
rule_valid [] = default_is_rule
rule_valid (header ∷ lines) = last_rule lines default_rule default_is_rule

-- ---- the generation

-- a generation line is neither blank nor tells a rule
no_other : (line : List ℕ) → is_letter_command 71 line ≡ true → (is_blank line ≡ false) × (is_letter_command 82 line ≡ false)
no_other [] h = cc
no_other (a ∷ []) h = absurd (no (a == 35) (left_of_and _ _ h))
  where
    no : (v : Bool) → (v && false) ≡ true → ⊥
    no true e = cc
    no false e = cc
no_other (a ∷ b ∷ rest) h =
    let prefix : ((a == 35) && ((b == 71) && true)) ≡ true = left_of_and _ _ h in
    let hash : a ≡ 35 = eqb-true a 35 (left_of_and _ _ prefix) in
    let letter : b ≡ 71 = eqb-true b 71 (left_of_and _ _ (right_of_and (a == 35) _ prefix)) in (
      ap (λ n. is_whitespace n && is_blank (b ∷ rest)) hash,
      ap (λ n. ((n == 35) && ((b == 82) && true)) && is_blank (take 1 rest)) hash ∙ ap (λ n. ((n == 82) && true) && is_blank (take 1 rest)) letter,
    )

number_fits : (u v : Bool) (n : ℕ) → nat_le n (2 ^ 64 - 1) ≡ v → result_err (cond (not u) (Err BadNumber) (cond v (Ok n) (Err TooLarge))) ≡ None → n < 2 ^ 64
number_fits true true n e h = omega (arith, leb-true n (2 ^ 64 - 1) e)
number_fits true false n e h = cc
number_fits false v n e h = cc

module _ (top : ℕ) (before : List (List ℕ)) (line : List ℕ) where
  abbrev late : Bool
  late = nat_lt 0 (length (map level_of (squares_of before)))

  abbrev judged : Option Kind
  judged = cond (begins_with line (codes "#")) None (broken_by_node top (rule_in_force before) (map level_of (squares_of before)) (trim line))

  checked : (b f r g l : Bool) → b ≡ false → r ≡ false → g ≡ true
      → cond b None (cond f (Some Timeline)
      (cond ((r || g) && l) (Some LateHeader) (cond r (result_err (rule_of (drop 2 line))) (cond g (result_err (u64_of (trim (drop 2 line)))) judged)))) ≡ None
      → result_err (u64_of (trim (drop 2 line))) ≡ None
  checked true f r g l p q s h = cc
  checked false true r g l p q s h = cc
  checked false false true g l p q s h = cc
  checked false false false false l p q s h = cc
  checked false false false true true p q s h = cc
  checked false false false true false p q s h = h

  generation_fits : broken_rule_after top before line ≡ None → is_letter_command 71 line ≡ true → value_of (trim (drop 2 line)) < 2 ^ 64
  generation_fits h g =
      let n = no_other line g in
      let c : result_err (u64_of (trim (drop 2 line))) ≡ None = checked (is_blank line) (begins_with line (codes "#FRAME")) (is_letter_command 82 line)
      (is_letter_command 71 line) late n.0 n.1 g h in
      number_fits (is_digit_text (trim (drop 2 line))) (nat_le (value_of (trim (drop 2 line))) (2 ^ 64 - 1)) (value_of (trim (drop 2 line))) refl c

behind : (top : ℕ) (header : List ℕ) (prefix : List (List ℕ)) (line : List ℕ) → broken_rule top (header ∷ prefix) line ≡ None
    → broken_rule_after top (header ∷ prefix) line
    ≡ None
unfolding broken_rule
behind top header prefix line h = passed (is_too_long line) LineTooLong _ h

generation_said : (line : List ℕ) (n : ℕ) → generation_on line ≡ Some n → (is_letter_command 71 line ≡ true → value_of (trim (drop 2 line)) < 2 ^ 64)
    → n < 2 ^ 64
generation_said line n h fits = by (is_letter_command 71 line) refl h
  where
    by : (v : Bool) → is_letter_command 71 line ≡ v → cond v (Some (value_of (trim (drop 2 line)))) None ≡ Some n → n < 2 ^ 64
    by true e k = let same : value_of (trim (drop 2 line)) ≡ n = cc in omega (arith, fits e, same)
    by false e k = cc

last_generation : (lines : List (List ℕ)) (generation : ℕ) → generation < 2 ^ 64
    → ((k : ℕ) → k < length lines → is_letter_command 71 (get_or lines k []) ≡ true → value_of (trim (drop 2 (get_or lines k []))) < 2 ^ 64)
    → last_or generation (filter_map generation_on lines) < 2 ^ 64
last_generation [] generation h fits = h
last_generation (line ∷ lines) generation h fits = by (generation_on line) refl (λ g k. last_generation lines g k (λ j l. fits (suc j) (omega arith)))
  where
    by : (o : Option ℕ) → generation_on line ≡ o → ((g : ℕ) → g < 2 ^ 64 → last_or g (filter_map generation_on lines) < 2 ^ 64)
        → last_or generation (cons_option o (filter_map generation_on lines)) < 2 ^ 64
    by None e more = more generation h
    by (Some said) e more = more said (generation_said line said e (fits 0 (omega arith)))

generation_valid : (top : ℕ) (lines : List (List ℕ)) → ((k : ℕ) → k < length lines → broken_rule top (take k lines) (get_or lines k []) ≡ None)
    → generation_in_force lines < 2 ^ 64
generation_valid top [] u = omega arith
generation_valid top (header ∷ lines) u =
    last_generation lines 0 (omega arith)
    (λ k l. generation_fits top (header ∷ take k lines) (get_or lines k [])
    (behind top header (take k lines) (get_or lines k []) (u (suc k) (omega arith))))

-- ---- the file

pub lines_are_valid : (top : ℕ) → LinesAreValid top
lines_are_valid top = λ lines file m.
    let R : Rule → Type 0 = λ rule. IsRule rule in
    let G : ℕ → Type 0 = λ generation. generation < 2 ^ 64 in
    let S : Rule → Type 0 = λ rule. AreSquares top rule (squares_of lines) in
    let T : List Line → Type 0 = λ squares. AreSquares top file.rule squares in
    record {
      rule = subst R (sym m.rule) (rule_valid lines);
      generation = subst G (sym m.generation) (generation_valid top lines m.unbroken);
      squares = subst T (sym m.squares) (subst S (sym m.rule) (squares_valid top lines m.unbroken));
    }

pub files_are_valid : (top : ℕ) → MacrocellsAreValid top
files_are_valid top = λ bytes file m. lines_are_valid top (lines_of bytes) file m
