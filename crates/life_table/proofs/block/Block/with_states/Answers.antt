use Rattle.std.proofs.Common.{◌+◌, ◌*◌, ◌<◌, slice_index, arith}
use Rattle.std.proofs.lemmas.Nat.Bits.{bit_at_ones}
use Rattle.life_table.proofs.Indexing.{and_both}
use Rattle.life_table.proofs.block.Block.with_states.Goals as goal

pub loop-p-init : goal.loop-p-init
loop-p-init c = λ k space h. bit_at_ones 64 k space

pub returns-then-lines-eq0 : goal.returns-then-lines-eq0
returns-then-lines-eq0 c = λ k space h.
    let p = c.loop-p.p in
    let s = slice_index c.args.image.now p in
    let small : s < 256 = omega (arith, c.type_inv.image p) in
    and_both c.loop-p.lines (slice_index c.args.self.now.sets (256 * p + s)) k
    (c.loop-p.invariant k space (λ q below. h q (omega (arith, below, c.loop-p-test.true)))) (h p c.loop-p-test.true small)

pub loop-p-preserved : goal.loop-p-preserved
loop-p-preserved c = λ k space h.
    let p = c.loop-p.p in
    let s = slice_index c.args.image.now p in
    let small : s < 256 = omega (arith, c.type_inv.image p) in
    and_both c.loop-p.lines (slice_index c.args.self.now.sets (256 * p + s)) k
    (c.loop-p.invariant k space (λ q below. h q (omega (arith, below)))) (h p (omega arith) small)
