-- How many runs a line brings at most.
use Rattle.std.proofs.Common.{◌≡◌, ◌≤◌, ◌+◌, ℕ, List, Bool, not, length, refl, arith, ◌==◌, filter, take_while}
use Rattle.std.specs.List.{prefix_len}
use Rattle.std.proofs.lemmas.List.Filters.{length-filter_both}
use Rattle.life_base.proofs.WordEnds.{split_length}
use Rattle.life_rle.specs.Runs.{is_run_end}

-- what passes a test in the prefix of a text is no more than the text
few : (test : ℕ → Bool) (text : List ℕ) (n : ℕ) (prefix : List ℕ) → length prefix + n ≡ length text → length (filter test prefix) ≤ length text
few test text n prefix h = omega (arith, length-filter_both test (λ b. not (test b)) (λ b. refl) prefix, h)

-- the bytes before the first `!` that can end a run are no more than all bytes
pub few_ends : (line : List ℕ) → length (filter is_run_end (take_while (λ b. not (b == 33)) line)) ≤ length line
few_ends line = let ended : ℕ → Bool = λ b. not (b == 33) in few is_run_end line _ (take_while ended line) (split_length line (prefix_len ended line))
