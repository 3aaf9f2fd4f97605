-- States are read as they are written.
use Rattle.std.proofs.Common.{◌≡◌, ℕ, ◌+◌, ◌-◌, ◌*◌, ◌/◌, ◌%◌, ◌≤◌, ◌<◌, Bool, true, false, cond, ◌&&◌, ◌||◌, List, [], ◌∷◌, ◌++◌, refl, ap, ◌∙◌, Some, None, Option, arith, eqb, leb}
use Rattle.std.proofs.lemmas.Bool.Decides.{nat_tests}
use Rattle.life_base.specs.declared.rule.Rule.TheVariants.{Life, Named}
use Rattle.std.specs.Option.{option_or}
use Rattle.life_rle.specs.States.{single_state, prefixed_state, prefixed_number, with_rest, leading_state, state_letters}
use Rattle.life_rle.specs.Laws.{StatesReadBack}

-- a state of one byte
pub one-byte : (b state : ℕ) (rest : List ℕ) → single_state b ≡ Some state → leading_state (b ∷ rest) ≡ Some (state, rest)
one-byte b state [] e = ap (λ s. with_rest s []) e
one-byte b state (c ∷ rest) e = ap (λ s. option_or (with_rest s (c ∷ rest)) (with_rest (prefixed_state b c) rest)) e

-- a state of two bytes
pub two-bytes : (b c state : ℕ) (rest : List ℕ) → single_state b ≡ None → prefixed_state b c ≡ Some state → leading_state (b ∷ c ∷ rest) ≡ Some (state, rest)
two-bytes b c state rest e f = ap (λ s. option_or (with_rest s (c ∷ rest)) (with_rest (prefixed_state b c) rest)) e ∙ ap (λ s. with_rest s rest) f

abbrev single-by : (dead live letter : Bool) → ℕ → Option ℕ
single-by dead live letter n = cond dead (Some 0) (cond live (Some 1) (cond letter (Some n) None))

a-letter : (n : ℕ) → 0 < n → n ≤ 24 → single_state (64 + n) ≡ Some n
a-letter n low high =
    let dead : (eqb (64 + n) 98 || eqb (64 + n) 46) ≡ false = grind (arith, nat_tests) in
    let live : eqb (64 + n) 111 ≡ false = grind (arith, nat_tests) in
    let letter : (leb 65 (64 + n) && leb (64 + n) 88) ≡ true = grind (arith, nat_tests) in
    let back : (64 + n) - 64 ≡ n = omega arith in
    ap (λ t. single-by t (eqb (64 + n) 111) (leb 65 (64 + n) && leb (64 + n) 88) ((64 + n) - 64)) dead
    ∙ ap (λ t. single-by false t (leb 65 (64 + n) && leb (64 + n) 88) ((64 + n) - 64)) live
    ∙ ap (λ t. single-by false false t ((64 + n) - 64)) letter
    ∙ ap Some back

no-single : (q : ℕ) → 0 < q → q ≤ 10 → single_state (111 + q) ≡ None
no-single q low high =
    let dead : (eqb (111 + q) 98 || eqb (111 + q) 46) ≡ false = grind (arith, nat_tests) in
    let live : eqb (111 + q) 111 ≡ false = grind (arith, nat_tests) in
    let letter : (leb 65 (111 + q) && leb (111 + q) 88) ≡ false = grind (arith, nat_tests) in
    ap (λ t. single-by t (eqb (111 + q) 111) (leb 65 (111 + q) && leb (111 + q) 88) ((111 + q) - 64)) dead
    ∙ ap (λ t. single-by false t (leb 65 (111 + q) && leb (111 + q) 88) ((111 + q) - 64)) live
    ∙ ap (λ t. single-by false false t ((111 + q) - 64)) letter

-- a prefix and a letter of a quotient and a remainder
a-prefix : (n q r : ℕ) → n ≡ 24 * q + r + 1 → r < 24 → 0 < q → n ≤ 255 → prefixed_state (111 + q) (65 + r) ≡ Some n
a-prefix n q r e small low high =
    let number : prefixed_number (111 + q) (65 + r) ≡ n = omega arith in
    let test : ((leb 112 (111 + q) && leb (111 + q) 121) && ((leb 65 (65 + r) && leb (65 + r) 88)) && leb n 255) ≡ true = grind (arith, nat_tests) in
    ap (λ m. cond ((leb 112 (111 + q) && leb (111 + q) 121) && ((leb 65 (65 + r) && leb (65 + r) 88)) && leb m 255) (Some m) None) number
    ∙ ap (λ t. cond t (Some n) None) test

two-lettered : (n : ℕ) (rest : List ℕ) → 24 < n → n ≤ 255 → leading_state ((111 + (n - 1) / 24) ∷ (65 + (n - 1) % 24) ∷ rest) ≡ Some (n, rest)
two-lettered n rest low high =
    let q = (n - 1) / 24 in
    let r = (n - 1) % 24 in
    two-bytes (111 + q) (65 + r) n rest (no-single q (omega arith) (omega arith)) (a-prefix n q r (omega arith) (omega arith) (omega arith) high)

lettered-read : (n : ℕ) (rest : List ℕ) → n ≤ 255 → leading_state (state_letters n ++ rest) ≡ Some (n, rest)
lettered-read n rest high =
    elim (eqb n 0) as (λ t. eqb n 0 ≡ t
    → leading_state (cond t (46 ∷ []) (cond (leb n 24) ((64 + n) ∷ []) ((111 + (n - 1) / 24) ∷ (65 + (n - 1) % 24) ∷ [])) ++ rest) ≡ Some (n, rest)) [
      | true ↦ λ e. let zero : 0 ≡ n = grind (arith, nat_tests) in one-byte 46 n rest (ap Some zero)
      | false ↦ λ e. elim (leb n 24)
          as (λ t. leb n 24 ≡ t → leading_state (cond t ((64 + n) ∷ []) ((111 + (n - 1) / 24) ∷ (65 + (n - 1) % 24) ∷ []) ++ rest) ≡ Some (n, rest)) [
            | true ↦ λ f. one-byte (64 + n) n rest (a-letter n (grind (arith, nat_tests)) (grind (arith, nat_tests)))
            | false ↦ λ f. two-lettered n rest (grind (arith, nat_tests)) high
          ] refl
    ] refl

pub states-read : StatesReadBack
states-read (Life sets) state rest h =
    elim (eqb state 0) as (λ t. eqb state 0 ≡ t → leading_state (cond t 98 111 ∷ rest) ≡ Some (state, rest)) [
      | true ↦ λ e. let zero : 0 ≡ state = grind (arith, nat_tests) in one-byte 98 state rest (ap Some zero)
      | false ↦ λ e. let one : 1 ≡ state = grind (arith, nat_tests) in one-byte 111 state rest (ap Some one)
    ] refl
states-read (Named name) state rest h = lettered-read state rest (grind (arith, nat_tests))
