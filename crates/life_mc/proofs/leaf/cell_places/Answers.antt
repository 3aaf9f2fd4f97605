use Rattle.std.proofs.Common.{◌∙◌, ap, take, w8, arith, ◌==◌, replicate, bit_or}
use Rattle.std.specs.Simd.Lanes.{mask_l, zip2}
use Rattle.std.proofs.lemmas.Simd.{bitmask_splat}
use Rattle.life_mc.proofs.WholeRows.{as_many_dots, dots_are_cells}
use Rattle.life_mc.proofs.leaf.cell_places.Goals as goal

pub returns : goal.returns
returns c =
    let text = c.args.text.now in
    bitmask_splat w8 ◌==◌ (zip2 bit_or (take 8 text) (replicate 8 4)) 8 46 (as_many_dots 8 text c.requires) (omega arith)
    ∙ ap mask_l (dots_are_cells 8 text c.type_inv.text)
