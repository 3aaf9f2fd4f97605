use Rattle.std.proofs.Common.{◌≡◌, ◌+◌, ◌*◌, ◌∙◌, arith}
use Rattle.std.specs.Int.{bit_at}
use Rattle.std.proofs.lemmas.Nat.Bits.{bit_at-lt, bit_at-zero}
use Rattle.life_next.proofs.CountLemmas.{eight}
use Rattle.life_next.proofs.counts.live_neighbours.Goals as goal

pub returns : goal.returns
returns c i =
    let n = c.args.words.now.before in
    let h = c.args.words.now.here in
    let s = c.args.words.now.after in
    let zero = bit_at-zero i in
    let north = c.add-north.ensures i in
    let here = c.add-here.ensures i in
    let south = c.add-south.ensures i in
    let ones = c.add-ones.ensures i in
    let twos = c.add-all_twos.ensures i in
    let more = c.add-twos.ensures i in
    let fours = c.add-fours.ensures i in
    let sum : bit_at c.add-ones.result.0 i + 2 * bit_at c.add-twos.result.0 i + 4 * bit_at c.add-fours.result.0 i + 8 * bit_at c.add-fours.result.1 i
    ≡ bit_at n.here i + bit_at n.after i + bit_at h.after i + bit_at s.after i + bit_at s.here i + bit_at s.before i + bit_at h.before i + bit_at n.before i =
    omega (arith, zero, north, here, south, ones, twos, more, fours) in
    sum ∙ eight _ _ _ _ _ _ _ _ (bit_at-lt n.here i) (bit_at-lt n.after i) (bit_at-lt h.after i) (bit_at-lt s.after i) (bit_at-lt s.here i)
    (bit_at-lt s.before i) (bit_at-lt h.before i) (bit_at-lt n.before i)
