use Rattle.std.proofs.Common.{◌^◌, ◌*◌, ◌%◌, ◌∙◌, arith, length-set, slice_index, bit_or}
use Rattle.life_table.proofs.Seeing.{tell_state}
use Rattle.life_table.proofs.seen.places_of_states.Goals as goal

pub loop-k-preserved : goal.loop-k-preserved
loop-k-preserved c =
    let k = c.loop-k.k in
    let s = slice_index c.args.around.now k in
    record {
      each = tell_state c.args.around.now c.loop-k.places k c.loop-k-test.true (omega (arith, c.type_inv.around, c.loop-k.invariant.size))
          c.loop-k.invariant.each;
      size = length-set c.loop-k.places s (bit_or (slice_index c.loop-k.places s) (1 * 2 ^ k % 2 ^ 16)) ∙ c.loop-k.invariant.size;
    }
