-- Where the bits of words come from whose squares or rows are put together.
use Rattle.std.proofs.Common.{◌≡◌, ℕ, ◌+◌, ◌*◌, ◌-◌, ◌<◌, Bool, true, refl, ◌==◌, eqb-true}
use Rattle.life_base.proofs.RoundTrip.{all_below, all_below_at}
use Rattle.life_lanes.specs.Places.{place_in, exchanged}

-- where a bit of the rows of four squares comes from, and one of four squares of their rows
abbrev pub row_from : ℕ → ℕ
row_from p = exchanged 0x0C0C0C0C0C0C0C0C 2 (exchanged 0x00000000FF00FF00 24 (exchanged 0x0000F0F00000F0F0 12 p))

abbrev pub square_from_row : ℕ → ℕ
square_from_row p = exchanged 0x0000F0F00000F0F0 12 (exchanged 0x00000000FF00FF00 24 (exchanged 0x0C0C0C0C0C0C0C0C 2 p))

-- by a test of each of the 64
rows_test : (r q i : ℕ) → Bool
rows_test r q i = row_from (63 - (16 * r + 4 * q + i)) == 63 - (16 * q + place_in r i)

each_row : all_below 4 (λ r. all_below 4 (λ q. all_below 4 (rows_test r q))) ≡ true
unfolding rows_test
each_row = refl

pub rows-place : (r q i : ℕ) → r < 4 → q < 4 → i < 4 → row_from (63 - (16 * r + 4 * q + i)) ≡ 63 - (16 * q + place_in r i)
unfolding rows_test
rows-place r q i lr lq li =
    eqb-true _ _
    (all_below_at 4 (rows_test r q) i
    (all_below_at 4 (λ q. all_below 4 (rows_test r q)) q (all_below_at 4 (λ r. all_below 4 (λ q. all_below 4 (rows_test r q))) r each_row lr) lq) li)

squares_test : (r q i : ℕ) → Bool
squares_test r q i = square_from_row (63 - (16 * q + place_in r i)) == 63 - (16 * r + 4 * q + i)

each_square : all_below 4 (λ r. all_below 4 (λ q. all_below 4 (squares_test r q))) ≡ true
unfolding squares_test
each_square = refl

pub squares-place : (r q i : ℕ) → r < 4 → q < 4 → i < 4 → square_from_row (63 - (16 * q + place_in r i)) ≡ 63 - (16 * r + 4 * q + i)
unfolding squares_test
squares-place r q i lr lq li =
    eqb-true _ _
    (all_below_at 4 (squares_test r q) i
    (all_below_at 4 (λ q. all_below 4 (squares_test r q)) q
    (all_below_at 4 (λ r. all_below 4 (λ q. all_below 4 (squares_test r q))) r each_square lr) lq) li)
