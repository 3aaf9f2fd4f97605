use Rattle.life_rle.proofs.ShortItems.{is-short}
use Rattle.life_rle.proofs.short_items.short_item.Goals as goal

pub returns : goal.returns
returns c = rw (c.short_count.ensures, c.short_digits.ensures) (is-short c.args.line.now c.args.at c.requires)
