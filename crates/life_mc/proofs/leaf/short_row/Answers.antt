use Rattle.std.proofs.Common.{◌++◌, ◌∙◌, ap, drop, subst, List, ℕ, length, replicate}
use Rattle.life_mc.specs.Standing.{first_row, TellsRow}
use Rattle.life_mc.proofs.Leaves.{row-ended}
use Rattle.life_mc.proofs.leaf.short_row.Goals as goal

pub returns : goal.returns
returns c =
    let text = c.args.text.now in
    let Tells : List ℕ → Type 0 = λ row. TellsRow row c.whole_row.result in
    subst Tells
    (ap (λ (t : List ℕ). first_row (t ++ drop (length text) (replicate 16 36))) c.copy_from_slice.ensures.after ∙ row-ended text (length text) c.requires)
    c.whole_row.ensures
