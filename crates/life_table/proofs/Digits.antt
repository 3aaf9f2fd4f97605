-- Numbers below a limit.
use Rattle.std.proofs.Common.{◌≡◌, ℕ, ◌-◌, ◌^◌, ◌<◌, List, Bool, true, false, not, refl, sym, arith, rules, ◌&&◌, nat_le, nat_lt, if◌then◌else◌, Option, Some, None, Result, Ok, Err}
use Rattle.life_base.specs.Text.{is_digit_text, value_of}
use Rattle.life_base.specs.Numbers.{u64_of}
use Rattle.life_base.specs.declared.kind.Kind.{Kind}
use Rattle.life_base.specs.declared.kind.Kind.TheVariants.{BadNumber, TooLarge}
use Rattle.life_table.specs.Reading.{number_below}

abbrev read : Bool → Bool → ℕ → Result ℕ Kind
read digits small v = if not digits then Err BadNumber else (if small then Ok v else Err TooLarge)

abbrev below : Bool → Bool → ℕ → Option ℕ
below digits less v = if digits && less then Some v else None

err_cases : (digits small less : Bool) (v : ℕ) (kind : Kind) → read digits small v ≡ Err kind → (small ≡ false → less ≡ false) → below digits less v ≡ None
err_cases false small less v kind e l = refl
err_cases true true less v kind e l = cc
err_cases true false less v kind e l = rw (l refl) refl

-- what is no number of the type is no number below a limit
pub unread : (word : List ℕ) (limit : ℕ) (kind : Kind) → Err kind ≡ u64_of word → limit < 2 ^ 64 → None ≡ number_below limit word
unread word limit kind e h =
    let far : nat_le (value_of word) (2 ^ 64 - 1) ≡ false → nat_lt (value_of word) limit ≡ false = λ f. grind (arith, rules) in
    sym (err_cases (is_digit_text word) (nat_le (value_of word) (2 ^ 64 - 1)) (nat_lt (value_of word) limit) (value_of word) kind (sym e) far)
