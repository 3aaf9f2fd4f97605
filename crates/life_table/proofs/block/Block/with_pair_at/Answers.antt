use Rattle.std.proofs.Common.{◌≡◌, ◌+◌, ◌*◌, ◌<◌, length, slice_index, sym, subst, arith, bit_or}
use Rattle.std.specs.Int.{bit_at}
use Rattle.life_table.proofs.Indexing.{and_both}
use Rattle.life_table.proofs.SomeOrder.{counted_index, order_length, pair_fits}
use Rattle.life_table.proofs.block.Block.with_pair_at.Goals as goal

pub loop-q-preserved : goal.loop-q-preserved
loop-q-preserved c = λ k centre v space order fit h.
    let block = c.args.self.now in
    let others = c.args.others.now in
    let p = c.args.p in
    let q = c.loop-q.q in
    let set = c.with_input_of_two-of_two.result in
    let inside : p < length v = let size = order_length others v order in omega (arith, size, c.requires.place) in
    and_both c.loop-q.rest (bit_or (slice_index block.apart (9 * (p + 1) + (q + 1))) set) k (c.loop-q.invariant k centre v space order fit h)
    (pair_fits block centre others v k p q set order fit inside c.loop-q-test.true (λ s there twice may.
    let at = counted_index others c.args.counts.now c.requires.counts s there in
    c.with_input_of_two-of_two.ensures k at.0 at.1 (omega (arith, at.3, twice))
    (subst (λ t. t < 256 → bit_at (slice_index block.sets (256 * (p + 1) + t)) k ≡ 1) (sym at.2) may)))
