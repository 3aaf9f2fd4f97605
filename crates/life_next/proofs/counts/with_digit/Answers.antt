use Rattle.std.proofs.Common.{◌-◌, Bool, ap, sym, ◌∙◌, w64, if◌then◌else◌}
use Rattle.std.specs.Int.{bit_at}
use Rattle.std.proofs.lemmas.Nat.Bits.{bit_at_not}
use Rattle.life_next.proofs.counts.with_digit.Goals as goal

pub returns-else-one : goal.returns-else-one
returns-else-one c i l =
    bit_at_not w64 c.args.digits i c.ranges.digits.fits l
    ∙ ap (λ (b : Bool). if b then bit_at c.args.digits i else 1 - bit_at c.args.digits i) (sym c.if-one.false)
