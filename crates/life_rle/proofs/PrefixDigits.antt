-- The digits at the beginning of a text.
use Rattle.std.proofs.Common.{◌≡◌, ℕ, cond, List, drop, sym, ap, ◌∙◌, Some, None, arith}
use Rattle.std.specs.Char.{is_ascii_digit}
use Rattle.std.specs.List.{prefix_len}
use Rattle.life_base.proofs.PrefixDigits.{digit_text_in_prefix}
use Rattle.life_base.specs.Text.{trim_start}
use Rattle.life_rle.specs.Items.{after_digits_of}
use Rattle.life_rle.specs.Header.{after_number}

pub after_number-some : (bytes rest : List ℕ) (n : ℕ) → n ≡ prefix_len is_ascii_digit bytes → (n ≡ 0 → ⊥) → rest ≡ trim_start (drop n bytes)
    → Some rest ≡ after_number bytes
after_number-some bytes rest n e h f =
    ap Some (f ∙ ap (λ k. trim_start (drop k bytes)) e)
    ∙ sym (ap (λ t. cond t (Some (trim_start (after_digits_of bytes))) None) (digit_text_in_prefix bytes (omega (arith, h, e))))
