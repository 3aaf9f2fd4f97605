-- The header line. Its tokens, the whitespace between them and sizes that don't matter are of Golly Help (File Formats, RLE); the order of
-- the checks and the default rule are the project's own.
use Rattle.std.specs.Prelude.{ℕ, List, [], ◌∷◌, length, drop, Option, Some, None, Result, Ok, Err, if◌then◌else◌, codes}
use Rattle.life_base.specs.declared.kind.Kind.{Kind}
use Rattle.life_base.specs.declared.kind.Kind.TheVariants.{BadHeader}
use Rattle.life_base.specs.declared.rule.Rule.{Rule}
use Rattle.life_base.specs.Text.{is_digit_text, begins_with, trim_start}
use Rattle.life_base.specs.Rules.{rule_of, default_rule}
use Rattle.life_rle.specs.Items.{leading_digits, after_digits_of}

infixl 10 ◌>>=◌
abbrev pub ◌>>=◌ : {A B : Type 0} → Option A → (A → Option B) → Option B
None >>= f = None
(Some a) >>= f = f a

-- what comes after this word and the whitespace after it
abbrev pub after_word : List ℕ → List ℕ → Option (List ℕ)
after_word word bytes = if begins_with bytes word then Some (trim_start (drop (length word) bytes)) else None

-- what comes after a digit text and the whitespace after it
abbrev pub after_number : List ℕ → Option (List ℕ)
after_number bytes = if is_digit_text (leading_digits bytes) then Some (trim_start (after_digits_of bytes)) else None

-- the text of the rule, if there is one
abbrev pub rule_part : List ℕ → Option (Option (List ℕ))
rule_part [] = Some None
rule_part (b ∷ bytes) = do
  rest ← after_word (codes ",") (b ∷ bytes)
  rest ← after_word (codes "rule") rest
  rest ← after_word (codes "=") rest
  Some (Some rest)

-- the rule part of `x = W, y = H` or `x = W, y = H, rule = R`, where the line has this form
abbrev pub header_form : List ℕ → Option (Option (List ℕ))
header_form line = do
  rest ← after_word (codes "x") line
  rest ← after_word (codes "=") rest
  rest ← after_number rest
  rest ← after_word (codes ",") rest
  rest ← after_word (codes "y") rest
  rest ← after_word (codes "=") rest
  rest ← after_number rest
  rule_part rest

-- the rule of a line of that form; B3/S23 where it names none
abbrev pub rule_in : Option (Option (List ℕ)) → Result Rule Kind
rule_in None = Err BadHeader
rule_in (Some None) = Ok default_rule
rule_in (Some (Some text)) = rule_of text

-- the rule that a header line gives; its form is checked before the rule
abbrev pub header_of : List ℕ → Result Rule Kind
header_of line = rule_in (header_form line)
