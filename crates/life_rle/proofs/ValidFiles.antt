-- The rule, the generation and the corner of an RLE file.
use Rattle.std.proofs.Common.{◌≡◌, ℕ, ◌-◌, ◌^◌, ◌<◌, Bool, true, false, cond, not, ◌&&◌, List, [], ◌∷◌, refl, sym, subst, arith, lit<, inl, inr, Option, Some, None, codes, drop, Result, Ok, Err, nat_le, ℤ}
use Rattle.std.proofs.lemmas.Bool.Decides.{nat_tests}
use Rattle.life_base.specs.Numbers.{u64_of}
use Rattle.life_base.specs.Rules.{IsRule, default_rule}
use Rattle.life_base.specs.Text.{is_digit_text, value_of, begins_with, words_of}
use Rattle.life_base.specs.declared.kind.Kind.{Kind}
use Rattle.life_base.specs.declared.kind.Kind.TheVariants.{BadNumber, TooLarge, OutOfPlane}
use Rattle.life_base.specs.declared.rule.Rule.{Rule}
use Rattle.life_base.proofs.RuleValues.{rule_values, default_is_rule}
use Rattle.life_rle.specs.declared.line.Opening.TheVariants.{PositionLine, Header}
use Rattle.life_rle.specs.declared.position.Position.{Position}
use Rattle.life_rle.specs.Grammar.{IsRle, IsUnmarked, IsPreamble, opening_of}
use Rattle.life_rle.specs.Header.{rule_in, header_form}
use Rattle.life_rle.specs.Pattern.{Rle}
use Rattle.life_rle.specs.Plane.{is_coordinate}
use Rattle.life_rle.specs.Position.{default_position, Field, Corner, Generation, Other, and_then, corner_of, corner_in, field_of, position_with_field, position_with}
use Rattle.life_rle.specs.Valid.{RlesAreValid}
use Rattle.life_rle.proofs.Openings.{opening-is}
use Rattle.life_rle.proofs.RunsLaws.{IsRle-plane}

-- ---- a line before the header

one-value : {X : Type 0} (a b : X) (r : Result X Kind) → r ≡ Ok a → r ≡ Ok b → a ≡ b
one-value a b r p q = cc

-- ---- the rule

rule-in-valid : (o : Option (Option (List ℕ))) (rule : Rule) → rule_in o ≡ Ok rule → IsRule rule
rule-in-valid None rule h = cc
rule-in-valid (Some None) rule h = let P : Rule → Type 0 = λ r. IsRule r in subst P (one-value default_rule rule (Ok default_rule) refl h) default_is_rule
rule-in-valid (Some (Some text)) rule h = rule_values text rule h

rule-valid : (level : ℕ) (line : List ℕ) (rule : Rule) → opening_of level line ≡ Ok (Header rule) → IsRule rule
rule-valid level line rule h = rule-in-valid (header_form line) rule (opening-is level line (Ok (Header rule)) h).1

-- ---- the generation

number-small : (u : Bool) (value n : ℕ) → cond (not u) (Err BadNumber) (cond (nat_le value (2 ^ 64 - 1)) (Ok value) (Err TooLarge)) ≡ Ok n → n < 2 ^ 64
number-small u value n h = by u (nat_le value (2 ^ 64 - 1)) refl h
  where
    by : (u v : Bool) → nat_le value (2 ^ 64 - 1) ≡ v → cond (not u) (Err BadNumber) (cond v (Ok value) (Err TooLarge)) ≡ Ok n → n < 2 ^ 64
    by true true e h = let same : value ≡ n = cc in subst (λ m. m < 2 ^ 64) same (grind (arith, nat_tests))
    by true false e h = cc
    by false v e h = cc

corner-none : (level : ℕ) (x y : Option ℤ) (n : ℕ) → corner_of level x y ≡ Ok (Generation n) → ⊥
corner-none level None y n h = cc
corner-none level (Some x) None n h = cc
corner-none level (Some x) (Some y) n h = by (is_coordinate level x && is_coordinate level y) h
  where
    by : (a : Bool) → cond a (Ok (Corner x y)) (Err OutOfPlane) ≡ Ok (Generation n) → ⊥
    by true h = cc
    by false h = cc

pick : (a b : Bool) (c : Result Field Kind) (u : Result ℕ Kind) (n : ℕ) → (c ≡ Ok (Generation n) → ⊥)
    → cond a c (cond b (and_then u (λ m. Ok (Generation m))) (Ok Other)) ≡ Ok (Generation n) → u ≡ Ok n
pick true b c u n never h = absurd (never h)
pick false true c (Ok m) n never h = cc
pick false true c (Err k) n never h = cc
pick false false c u n never h = cc

field-small : (level : ℕ) (text : List ℕ) (n : ℕ) → field_of level text ≡ Ok (Generation n) → n < 2 ^ 64
field-small level text n h =
    number-small (is_digit_text (drop 4 text)) (value_of (drop 4 text)) n
    (pick (begins_with text (codes "Pos=")) (begins_with text (codes "Gen=")) (corner_in level (drop 4 text)) (u64_of (drop 4 text)) n (corner-none level _ _ n)
    h)

with-small : (level : ℕ) (text : List ℕ) (position : Position) (found : Field) → field_of level text ≡ Ok found → position.generation < 2 ^ 64
    → (position_with_field position found).generation < 2 ^ 64
with-small level text position (Corner x y) h l = l
with-small level text position (Generation n) h l = field-small level text n h
with-small level text position Other h l = l

fields-small : (level : ℕ) (position : Position) (fields : List (List ℕ)) (found : Position) → position_with level position fields ≡ Ok found
    → position.generation < 2 ^ 64 → found.generation < 2 ^ 64
fields-small level position [] found h l = let P : Position → Type 0 = λ p. p.generation < 2 ^ 64 in subst P (one-value position found (Ok position) refl h) l
fields-small level position (field ∷ fields) found h l = by (field_of level field) refl h (λ p q k. fields-small level p fields found q k)
  where
    by : (r : Result Field Kind) → field_of level field ≡ r → and_then r (λ f. position_with level (position_with_field position f) fields) ≡ Ok found
        → ((p : Position) → position_with level p fields ≡ Ok found → p.generation < 2 ^ 64 → found.generation < 2 ^ 64) → found.generation < 2 ^ 64
    by (Ok f) e h more = more (position_with_field position f) h (with-small level field position f e l)
    by (Err k) e h more = cc

preamble-small : (level : ℕ) (given : Position) (lines : List (List ℕ)) (position : Position) → IsPreamble level given lines position
    → given.generation < 2 ^ 64 → position.generation < 2 ^ 64
preamble-small level given [] position e l = let P : Position → Type 0 = λ p. p.generation < 2 ^ 64 in subst P (sym e) l
preamble-small level given (line ∷ lines) position (inl p) l = preamble-small level given lines position p.1 l
preamble-small level given (line ∷ lines) position (inr p) l =
    preamble-small level p.0 lines position p.2
    (fields-small level default_position (words_of (drop 6 line)) p.0
    (opening-is level line (Ok (PositionLine p.0)) p.1).2 (lit< tt))

unmarked-valid : (level : ℕ) (lines : List (List ℕ)) (file : Rle) → IsUnmarked level lines file → IsRule file.rule × (file.position.generation < 2 ^ 64)
unmarked-valid level lines file u
    = (rule-valid level u.header file.rule u.rule, preamble-small level default_position u.before file.position u.preamble (lit< tt))

both-valid : (level : ℕ) (lines : List (List ℕ)) (file : Rle) → IsRle level lines file → IsRule file.rule × (file.position.generation < 2 ^ 64)
both-valid level lines file (inl u) = unmarked-valid level lines file u
both-valid level lines file (inr m) = unmarked-valid level m.prefix (record file { items = m.earlier }) m.begun

pub files_are_valid : RlesAreValid
files_are_valid level lines file f =
    let both = both-valid level lines file f in
    let corner = IsRle-plane level lines file f in
    record { rule = both.0; generation = both.1; x = corner.0; y = corner.1 }
