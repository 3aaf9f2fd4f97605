use Rattle.std.proofs.Common.{sym, subst}
use Rattle.life_block.specs.Bits.{AreFourRows}
use Rattle.life_block.proofs.leaf.rows_of_four.Goals as goal

pub returns : goal.returns
returns g c cells x y binary h =
    subst (AreFourRows cells x y) (sym c.of.ensures) (record {
      first = c.rows_of.ensures cells _ y binary h.first;
      second = c.rows_of-2.ensures cells _ y binary h.second;
      third = c.rows_of-3.ensures cells _ y binary h.third;
      fourth = c.rows_of-4.ensures cells _ y binary h.fourth;
    })
