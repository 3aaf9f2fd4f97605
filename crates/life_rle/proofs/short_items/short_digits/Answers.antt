use Rattle.std.proofs.Common.{arith}
use Rattle.life_rle.proofs.ShortItems.{digits_of}
use Rattle.life_rle.proofs.short_items.short_digits.Goals as goal

pub returns : goal.returns
returns c = rw (c.from-2.ensures, c.from.ensures) (digits_of c.args.byte (omega arith))
