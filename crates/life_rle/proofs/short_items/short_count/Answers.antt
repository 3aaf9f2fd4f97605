use Rattle.std.proofs.Common.{arith}
use Rattle.life_rle.proofs.ShortItems.{count_of}
use Rattle.life_rle.proofs.short_items.short_count.Goals as goal

pub returns : goal.returns
returns c = rw (c.from-2.ensures, c.from.ensures) (count_of c.args.byte (omega arith))
