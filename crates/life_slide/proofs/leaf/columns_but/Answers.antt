use Rattle.std.proofs.Common.{◌≡◌, ℕ, ◌+◌, ◌*◌, ◌-◌, Bool, true, List, [], ◌∷◌, slice_index_or, min, refl, ◌==◌, eqb-true}
use Rattle.std.specs.Int.{bit_at}
use Rattle.life_base.proofs.RoundTrip.{all_below, all_below_at}
use Rattle.life_slide.proofs.leaf.columns_but.Goals as goal

-- the masks, by a test of each of the 64 places of the eight
abbrev masks : List ℕ
masks =
    0xFFFFFFFFFFFFFFFF ∷ 0xFEFEFEFEFEFEFEFE ∷ 0xFCFCFCFCFCFCFCFC ∷ 0xF8F8F8F8F8F8F8F8 ∷ 0xF0F0F0F0F0F0F0F0 ∷ 0xE0E0E0E0E0E0E0E0 ∷ 0xC0C0C0C0C0C0C0C0
    ∷ 0x8080808080808080 ∷ []

test : (n r i : ℕ) → Bool
test n r i = bit_at (slice_index_or masks n 0) (63 - (8 * r + i)) == min (8 - (i + n)) 1

each : all_below 8 (λ n. all_below 8 (λ r. all_below 8 (test n r))) ≡ true
unfolding test
each = refl

pub returns : goal.returns
unfolding test
returns c r i lr li =
    let n = c.args.last in
    eqb-true _ _ (all_below_at 8 (test n r) i (all_below_at 8 (λ r. all_below 8 (test n r)) r
    (all_below_at 8 (λ n. all_below 8 (λ r. all_below 8 (test n r))) n each c.requires) lr) li)
