use Rattle.std.proofs.Common.{◌≡◌, ◌-ℤ◌, ℤ, pos, neg_ℤ, ◌+ℤ◌, ◌≤ℤ◌, ◌<ℤ◌, ◌^◌, arith, to_z, of_z, w64}
use Rattle.std.proofs.lemmas.Int.{ints}
use Rattle.std.proofs.lemmas.Bool.Decides.{nat_tests}
use Rattle.life_phases.proofs.middle.are_as_large.Goals as goal

-- sides of one length, as the code computes it
same-length : (low high l h : ℤ) → neg_ℤ (pos (2 ^ 61)) ≤ℤ low → low <ℤ pos (2 ^ 61) → neg_ℤ (pos (2 ^ 61)) ≤ℤ high → high <ℤ pos (2 ^ 61)
    → neg_ℤ (pos (2 ^ 61)) ≤ℤ l → l <ℤ pos (2 ^ 61) → neg_ℤ (pos (2 ^ 61)) ≤ℤ h → h <ℤ pos (2 ^ 61) → high +ℤ l ≡ h +ℤ low
    → of_z w64 (to_z w64 (of_z w64 high) -ℤ to_z w64 (of_z w64 low)) ≡ of_z w64 (to_z w64 (of_z w64 h) -ℤ to_z w64 (of_z w64 l))
same-length low high l h a b c d e f g i same = omega (arith, ints, a, b, c, d, e, f, g, i, same)

pub returns-then-a-b : goal.returns-then-a-b
returns-then-a-b c large =
    let a = c.requires.a in
    let b = c.requires.b in
    let same = same-length _ _ _ _ a.top.from a.top.to a.bottom.from a.bottom.to b.top.from b.top.to b.bottom.from b.bottom.to large.rows in
    grind (arith, nat_tests, same)

pub returns-else-a-b : goal.returns-else-a-b
returns-else-a-b c large =
    let a = c.requires.a in
    let b = c.requires.b in
    let same = same-length _ _ _ _ a.left.from a.left.to a.right.from a.right.to b.left.from b.left.to b.right.from b.right.to large.columns in
    grind (arith, nat_tests, same)
