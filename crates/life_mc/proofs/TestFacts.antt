-- Small facts on tests.
use Rattle.std.proofs.Common.{◌≡◌, ℕ, ◌*◌, ◌≤◌, Bool, true, false, cond, ◌&&◌, arith}
use Rattle.life_base.specs.declared.rule.Rule.{Rule}
use Rattle.life_base.specs.declared.rule.Rule.TheVariants.{Life, Named}
use Rattle.life_base.proofs.Basics.{right_of_and, left_of_and}
use Rattle.life_mc.specs.Macrocell.{largest_state}

pub all_four : (a b c d : Bool) → (a && (b && (c && (d && true)))) ≡ true → (a ≡ true) × (b ≡ true) × (c ≡ true) × (d ≡ true)
all_four a b c d h =
    let rest = right_of_and a _ h in
    let last = right_of_and b _ rest in
    (left_of_and _ _ h, left_of_and _ _ rest, left_of_and _ _ last, left_of_and _ _ (right_of_and c _ last))

-- a test's weight
pub weigh : (v : Bool) (w : ℕ) → cond v w 0 ≡ w * cond v 1 0
weigh true w = omega arith
weigh false w = omega arith

pub at_most_one : (v : Bool) → cond v 1 0 ≤ 1
at_most_one true = omega arith
at_most_one false = omega arith

-- a rule has states 0 and 1 at the least, and 0 to 255 at most
pub few_states : (rule : Rule) → (1 ≤ largest_state rule) × (largest_state rule ≤ 255)
few_states (Life sets) = (omega arith, omega arith)
few_states (Named name) = (omega arith, omega arith)
