-- The table is held against the states at each of the 256 bytes, by computing.
use Rattle.std.proofs.Common.{◌≡◌, ◌∙◌, ◌<◌, ℕ, Option, None, Some, false, cond, List, map, get_or, refl, ap, sym, arith, ◌==◌}
use Rattle.std.proofs.lemmas.List.{get_or-map}
use Rattle.std.proofs.lemmas.List.FromFn.{get_or-map-range_with_len}
use Rattle.std.proofs.lemmas.Bool.Decides.{nat_tests}
use Rattle.std.specs.List.{range_with_len}
use Rattle.life_rle.specs.declared.item.TheConstants.{STATES}
use Rattle.life_rle.specs.States.{single_state}
use Rattle.life_rle.proofs.item.single_state.Goals as goal

abbrev named : ℕ → Option ℕ
named state = cond (state == 255) None (Some state)

rows : map named STATES ≡ map single_state (range_with_len 0 256)
rows = refl

row : (b : ℕ) → b < 256 → named (get_or STATES b 0) ≡ single_state b
row b h =
    sym (get_or-map named STATES b 0 None h) ∙ ap (λ (r : List (Option ℕ)). get_or r b None) rows
    ∙ get_or-map-range_with_len single_state 0 256 b b None h (omega arith)

named-none : (state : ℕ) → state ≡ 255 → named state ≡ None
named-none state e = rw e refl

named-some : (state : ℕ) → (state ≡ 255 → ⊥) → named state ≡ Some state
named-some state h = let other : (state == 255) ≡ false = grind (arith, nat_tests) in rw other refl

pub returns-then-state : goal.returns-then-state
returns-then-state c = sym (named-none _ c.if-state.true) ∙ rw c.from.ensures (row c.args.byte (omega arith))

pub returns-else-state : goal.returns-else-state
returns-else-state c = sym (named-some _ c.if-state.false) ∙ rw c.from.ensures (row c.args.byte (omega arith))
