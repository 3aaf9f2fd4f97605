-- The bytes before the first that passes a test.
use Rattle.std.proofs.Common.{◌≡◌, ℕ, ◌≤◌, Bool, not, List, length, take, ap, sym, arith, ltb, position, take_while, Some, None, take_all, ltb-false}
use Rattle.std.specs.List.{position_or_len}
use Rattle.std.proofs.lemmas.List.Quantifiers.{position-Some}
use Rattle.std.proofs.lemmas.List.Sums.{position_or_len_is}
use Rattle.life_base.proofs.Basics.{false_from_none}

pub prefix-Some : (test : ℕ → Bool) (xs : List ℕ) (i : ℕ) → position test xs ≡ Some i → take i xs ≡ take_while (λ b. not (test b)) xs
prefix-Some test xs i h =
    let p = position-Some test xs i 0 h in
    let e : position_or_len test xs ≡ i = position_or_len_is test xs i 0 (omega (arith, p.0)) p.2 (λ _. p.1) in
    ap (λ n. take n xs) (sym e)

pub prefix-None : (test : ℕ → Bool) (xs : List ℕ) → position test xs ≡ None → xs ≡ take_while (λ b. not (test b)) xs
prefix-None test xs h =
    let l : length xs ≤ position_or_len test xs = ltb-false _ _ (false_from_none (ltb (position_or_len test xs) (length xs)) _ h) in
    sym (take_all (position_or_len test xs) xs l)
