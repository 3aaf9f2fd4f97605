-- A header line gives the rule that it gives in the layer below.
use Rattle.std.proofs.Common.{◌≡◌, ℕ, List, [], ◌∷◌, length, drop, Bool, true, false, cond, refl, ap, ◌∙◌, codes, Option, Some, None, Result, Ok, Err}
use Rattle.life_base.specs.Numbers.{result_map}
use Rattle.life_base.specs.Text.{begins_with, is_digit_text, trim_start}
use Rattle.life_base.specs.declared.kind.Kind.{Kind}
use Rattle.life_base.specs.declared.kind.Kind.TheVariants as kinds
use Rattle.life_rle.specs.Items.{leading_digits, after_digits_of}
use Rattle.life_rle.specs.Header.{after_word, after_number, rule_in, header_of as layer_header_of, rule_part as layer_rule_part, ◌>>=◌ as ◌>>?◌}
use Rattle.claims.specs.Outcomes.{◌>>=◌}
use Rattle.claims.specs.Rules.{Rule, claimed_rule_of}
use Rattle.claims.specs.Rle.{after_token, after_digits, claimed_rule_part, claimed_header_of}
use Rattle.claims.proofs.RuleLaw.{rule_in as rule_in_claims, rule_of_is}

abbrev reported : {X : Type 0} → Option X → Result X Kind
reported (Some x) = Ok x
reported None = Err kinds.BadHeader

behind_is : (token text : List ℕ) → after_token token text ≡ reported (after_word token text)
behind_is token text = by (begins_with text token)
  where
    by : (v : Bool) → cond v (Ok (trim_start (drop (length token) text))) (Err kinds.BadHeader)
        ≡ reported (cond v (Some (trim_start (drop (length token) text))) None)
    by true = refl
    by false = refl

behind_number_is : (text : List ℕ) → after_digits text ≡ reported (after_number text)
behind_number_is text = by (is_digit_text (leading_digits text))
  where
    by : (v : Bool) → cond v (Ok (trim_start (after_digits_of text))) (Err kinds.BadHeader) ≡ reported (cond v (Some (trim_start (after_digits_of text))) None)
    by true = refl
    by false = refl

-- the rule of a form that was found, or none
abbrev ruled : Option (Option (List ℕ)) → Result Rule Kind
ruled form = result_map rule_in_claims (rule_in form)

-- one token more
module _ (next : List ℕ → Result Rule Kind) (form : List ℕ → Option (Option (List ℕ))) (same : (rest : List ℕ) → next rest ≡ ruled (form rest)) where
  bound : (found : Option (List ℕ)) → (reported found >>= next) ≡ ruled (found >>? form)
  bound (Some rest) = same rest
  bound None = refl

  token_is : (token text : List ℕ) → (after_token token text >>= next) ≡ ruled (after_word token text >>? form)
  token_is token text = ap (λ (r : Result (List ℕ) Kind). r >>= next) (behind_is token text) ∙ bound (after_word token text)

  number_is : (text : List ℕ) → (after_digits text >>= next) ≡ ruled (after_number text >>? form)
  number_is text = ap (λ (r : Result (List ℕ) Kind). r >>= next) (behind_number_is text) ∙ bound (after_number text)

text_is : (rest : List ℕ) → claimed_rule_of rest ≡ ruled (Some (Some rest))
text_is rest = rule_of_is rest

part_is : (text : List ℕ) → claimed_rule_part text ≡ ruled (layer_rule_part text)
part_is [] = refl
part_is (b ∷ text) = token_is _ _ (token_is _ _ (token_is _ _ text_is (codes "=")) (codes "rule")) (codes ",") (b ∷ text)

pub header_is : (line : List ℕ) → claimed_header_of line ≡ result_map rule_in_claims (layer_header_of line)
header_is line =
    token_is _ _ (token_is _ _ (number_is _ _ (token_is _ _ (token_is _ _ (token_is _ _ (number_is _ _ part_is) (codes "=")) (codes "y")) (codes ",")))
    (codes "=")) (codes "x") line
