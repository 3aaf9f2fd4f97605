use Rattle.std.proofs.Common.{◌≡◌, ◌+◌, ◌*◌, ◌∙◌, arith}
use Rattle.std.specs.Int.{bit_at}
use Rattle.std.proofs.lemmas.Nat.Bits.{bit_at-lt, bit_at-zero}
use Rattle.life_next.proofs.CountLemmas.{four}
use Rattle.life_next.proofs.counts.live_sides.Goals as goal

pub returns : goal.returns
returns c i =
    let w = c.args.words.now in
    let three = c.add-three.ensures i in
    let ones = c.add-ones.ensures i in
    let twos = c.add-twos.ensures i in
    let sum : bit_at c.add-ones.result.0 i + 2 * bit_at c.add-twos.result.0 i + 4 * bit_at c.add-twos.result.1 i + 8 * bit_at 0 i
    ≡ bit_at w.before.here i + bit_at w.here.after i + bit_at w.after.here i + bit_at w.here.before i =
    omega (arith, bit_at-zero i, three, ones, twos) in
    sum ∙ four _ _ _ _ (bit_at-lt w.before.here i) (bit_at-lt w.here.after i) (bit_at-lt w.after.here i) (bit_at-lt w.here.before i)
