use Rattle.std.proofs.Common.{◌≡◌, ℕ, ◌+◌, ◌-◌, ◌%◌, length, ap, sym, ◌∙◌, arith, slice_index, length-set}
use Rattle.life_table.proofs.Turning.{prefix_more, prefix_all, source, source_is}
use Rattle.life_table.proofs.turn.image_of.Goals as goal

pub loop-i-preserved : goal.loop-i-preserved
loop-i-preserved c =
    let n : ℕ = length c.args.cells.now - 1 in
    let i : ℕ = c.loop-i.i in
    let from : ℕ = (c.place_before.result + c.args.r) % n in
    let from_is : from ≡ source n c.args.reflect c.args.r i = ap (λ k. (k + c.args.r) % n) c.place_before.ensures
    ∙ sym (source_is n c.args.reflect c.args.r i) in
    record {
      prefix = prefix_more c.args.cells.now c.loop-i.image c.args.reflect c.args.r i from (omega (arith, c.loop-i.invariant.size)) from_is
          c.loop-i.invariant.prefix;
      size = length-set c.loop-i.image (i + 1) (slice_index c.args.cells.now (1 + from)) ∙ c.loop-i.invariant.size;
    }

pub returns : goal.returns
returns c = prefix_all c.args.cells.now c.loop-i.image c.args.reflect c.args.r c.loop-i.i (omega arith) c.loop-i.invariant.prefix
