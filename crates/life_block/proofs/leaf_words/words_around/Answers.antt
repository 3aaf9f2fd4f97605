use Rattle.std.proofs.Common.{sym, subst}
use Rattle.life_next.specs.Generation.{one_before, one_after}
use Rattle.life_block.specs.Bits.{AreThreeRows, AreNineRows}
use Rattle.life_block.proofs.leaf_words.words_around.Goals as goal

pub returns : goal.returns
returns c cells x y h =
    let north = subst (AreThreeRows cells 8 x (one_before y)) (sym c.of-north.ensures) (record {
      before = c.one_row_north.ensures cells _ y h.before.before h.here.before;
      here = c.one_row_north-2.ensures cells _ y h.before.here h.here.here;
      after = c.one_row_north-3.ensures cells _ y h.before.after h.here.after;
    }) in
    let south = subst (AreThreeRows cells 8 x (one_after y)) (sym c.of-south.ensures) (record {
      before = c.one_row_south.ensures cells _ y h.here.before h.after.before;
      here = c.one_row_south-2.ensures cells _ y h.here.here h.after.here;
      after = c.one_row_south-3.ensures cells _ y h.here.after h.after.after;
    }) in
    subst (AreNineRows cells 1 x y) (sym c.of.ensures) (record {
      before = c.columns_around.ensures cells x _ north;
      here = c.columns_around-2.ensures cells x y h.here;
      after = c.columns_around-3.ensures cells x _ south;
    })
