use Rattle.std.proofs.Common.{◌⊎◌, inl, inr, ◌≡◌, ◌<◌, ◌^◌, ◌&&◌, ◌==◌, not, ℕ, Bool, true, false, arith}
use Rattle.std.proofs.lemmas.Bool.Decides.{nat_tests}
use Rattle.life_base.specs.Tree.{quad, is_blank_tree}
use Rattle.life_quad.specs.Store.{eight}
use Rattle.life_quad.proofs.LeafCells.{eight_not_blank}
use Rattle.life_forms.proofs.corners.has_cells.Goals as goal

-- a square with a quarter that isn't blank isn't blank
live-quad : (a b c d : Bool) → (a ≡ false) ⊎ ((b ≡ false) ⊎ ((c ≡ false) ⊎ (d ≡ false))) → (a && b && c && d) ≡ false
live-quad a b c d e = grind (arith, e)

live-block : (a b c d : ℕ)
    → (is_blank_tree (eight a) ≡ false) ⊎ ((is_blank_tree (eight b) ≡ false) ⊎ ((is_blank_tree (eight c) ≡ false) ⊎ (is_blank_tree (eight d) ≡ false)))
    → is_blank_tree (quad (eight a) (eight b) (eight c) (eight d)) ≡ false
live-block a b c d e = live-quad (is_blank_tree (eight a)) (is_blank_tree (eight b)) (is_blank_tree (eight c)) (is_blank_tree (eight d)) e

live : (n : ℕ) → n < 2 ^ 64 → ¬ (n ≡ 0) → is_blank_tree (eight n) ≡ false
live n l some = eight_not_blank n l (omega (arith, some))

pub returns-then-nw-ne0 : goal.returns-then-nw-ne0
returns-then-nw-ne0 c is = live-block c.args.nw c.args.ne c.args.sw c.args.se (inl (live c.args.nw c.ranges.nw.fits c.if-nw-ne0.true))

pub returns-then-ne-ne0 : goal.returns-then-ne-ne0
returns-then-ne-ne0 c is = live-block c.args.nw c.args.ne c.args.sw c.args.se (inr (inl (live c.args.ne c.ranges.ne.fits c.if-ne-ne0.true)))

pub returns-then-sw-ne0 : goal.returns-then-sw-ne0
returns-then-sw-ne0 c is = live-block c.args.nw c.args.ne c.args.sw c.args.se (inr (inr (inl (live c.args.sw c.ranges.sw.fits c.if-sw-ne0.true))))

not-zero : (n : ℕ) → not (n == 0) ≡ true → ¬ (n ≡ 0)
not-zero n some e = grind (arith, nat_tests, some, e)

pub returns : goal.returns
returns c is = live-block c.args.nw c.args.ne c.args.sw c.args.se (inr (inr (inr (live c.args.se c.ranges.se.fits (not-zero c.args.se is)))))
