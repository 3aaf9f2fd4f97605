use Rattle.std.proofs.Common.{◌≡◌, ◌+◌, ◌*◌, ◌<◌, take, length, slice_index, sym, subst, arith}
use Rattle.std.specs.Int.{bit_at}
use Rattle.life_table.proofs.Indexing.{and_both}
use Rattle.life_table.proofs.SomeOrder.{is_among_at, among_order, order_length}
use Rattle.life_table.proofs.block.Block.with_each_input.Goals as goal

pub loop-p-preserved : goal.loop-p-preserved
loop-p-preserved c = λ k v space order may h.
    let p = c.loop-p.p in
    let others = c.args.others.now in
    let sets = c.args.self.now.sets in
    let counts = c.args.counts.now in
    let size = order_length others v order in
    let inside : p < length v = omega (arith, size, c.loop-p-test.true) in
    let at = is_among_at (take counts.count counts.states) (slice_index v p)
    (c.requires.counts.each (slice_index v p) (among_order others v p order inside)) in
    let there : bit_at c.with_input_among-rest.result k ≡ 1 = c.with_input_among-rest.ensures k at.0 at.1 (λ small.
    subst (λ s. bit_at (slice_index sets (256 * (p + 1) + s)) k ≡ 1) (sym at.2) (may p inside (subst (λ s. s < 256) at.2 small))) in
    and_both c.loop-p.rest c.with_input_among-rest.result k (c.loop-p.invariant k v space order may h) there
