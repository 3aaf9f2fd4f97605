-- The digits at the beginning of a text.
use Rattle.std.proofs.Common.{◌≡◌, ℕ, zero, suc, ◌+◌, ◌<◌, Bool, true, false, not, cond, ◌&&◌, List, [], ◌∷◌, take, refl, ap, ◌∙◌, arith, take_while}
use Rattle.std.specs.Char.{is_ascii_digit}
use Rattle.std.specs.List.{list_all, prefix_len}
use Rattle.life_base.specs.Text.{is_empty, is_digit_text}

-- the prefix that passes a test passes it
pub list_all-prefix : (test : ℕ → Bool) (xs : List ℕ) → list_all test (take (prefix_len test xs) xs) ≡ true
list_all-prefix test [] = refl
list_all-prefix test (x ∷ xs) =
    elim (test x) as (λ t. test x ≡ t → list_all test (take (cond t (1 + prefix_len test xs) 0) (x ∷ xs)) ≡ true) [
      | true ↦ λ e.
          let k : 1 + prefix_len test xs ≡ suc (prefix_len test xs) = omega arith in
          rw k (ap (λ t. t && list_all test (take (prefix_len test xs) xs)) e ∙ list_all-prefix test xs)
      | false ↦ λ e. refl
    ] refl

some_prefix : (n b : ℕ) (text : List ℕ) → 0 < n → is_empty (take n (b ∷ text)) ≡ false
some_prefix zero b text h = absurd (omega arith)
some_prefix (suc n) b text h = refl

-- the digits at the beginning are a digit text, if there are any
pub digit_text_in_prefix : (text : List ℕ) → 0 < prefix_len is_ascii_digit text → is_digit_text (take_while is_ascii_digit text) ≡ true
digit_text_in_prefix [] h = absurd (omega arith)
digit_text_in_prefix (b ∷ text) h =
    ap (λ t. not t && list_all is_ascii_digit (take_while is_ascii_digit (b ∷ text))) (some_prefix (prefix_len is_ascii_digit (b ∷ text)) b text h)
    ∙ list_all-prefix is_ascii_digit (b ∷ text)
