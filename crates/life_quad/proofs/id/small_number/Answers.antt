use Rattle.std.proofs.Common.{◌+◌, ◌*◌, Some, sym, ◌∙◌}
use Rattle.life_quad.proofs.SmallLemmas.{of_two, of_four, of_none, large_first}
use Rattle.life_quad.proofs.id.small_number.Goals as goal

pub returns-then-nw-ge-LEVEL_TWO : goal.returns-then-nw-ge-LEVEL_TWO
returns-then-nw-ge-LEVEL_TWO c =
    let no = large_first _ _ _ _ c.if-nw-ge-LEVEL_TWO.true in
    of_none _ _ _ _ no.0 no.1

pub returns-then-are_bits : goal.returns-then-are_bits
returns-then-are_bits c = of_two _ _ _ _ (sym c.are_bits.ensures ∙ c.if-are_bits.true)

pub returns-then-are_digits : goal.returns-then-are_digits
returns-then-are_digits c =
    let a = c.digit.ensures.digit in
    let b = c.digit-then-are_digits.ensures.digit in
    let d = c.digit-then-are_digits-2.ensures.digit in
    let e = c.digit-then-are_digits-3.ensures.digit in
    (λ i. Some (528 + (a i * 4096 + b i * 256 + d i * 16 + e i))) ∙ of_four _ _ _ _ (sym c.are_bits.ensures ∙ c.if-are_bits.false)
    (sym c.are_digits.ensures ∙ c.if-are_digits.true)

pub returns : goal.returns
returns c = of_none _ _ _ _ (sym c.are_bits.ensures ∙ c.if-are_bits.false) (sym c.are_digits.ensures ∙ c.if-are_digits.false)
