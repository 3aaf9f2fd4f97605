use Rattle.std.proofs.Common.{sym, subst}
use Rattle.life_block.specs.Bits.{AreThreeRows}
use Rattle.life_block.proofs.leaf_words.columns_around.Goals as goal

pub returns : goal.returns
returns c cells x y h =
    subst (AreThreeRows cells 1 x y) (sym c.of.ensures) (record {
      before = c.one_column_west.ensures cells x y h.before h.here;
      here = h.here;
      after = c.one_column_east.ensures cells x y h.here h.after;
    })
