use Rattle.std.proofs.Common.{[], ◌∷◌, refl, ◌∙◌}
use Rattle.life_quad.specs.Store.{id_of}
use Rattle.life_quad.proofs.SmallLemmas.{bits_are, digits_are}
use Rattle.life_quad.proofs.id.small_parts.Goals as goal

pub returns-then-number-lt-LEVEL_TWO : goal.returns-then-number-lt-LEVEL_TWO
returns-then-number-lt-LEVEL_TWO c = λ a b p q h.
    let e = bits_are a b p q _ c.saturating_sub-bits.result h c.if-number-lt-LEVEL_TWO.true c.saturating_sub-bits.ensures in
    λ i. id_of (e.0 i) ∷ id_of (e.1 i) ∷ id_of (e.2 i) ∷ id_of (e.3 i) ∷ []

pub returns-else-number-lt-LEVEL_TWO : goal.returns-else-number-lt-LEVEL_TWO
returns-else-number-lt-LEVEL_TWO c = λ a b p q h.
    let e = digits_are a b p q _ _ h c.if-number-lt-LEVEL_TWO.false refl in
    λ i. (c.of_digit.ensures ∙ e.0) i ∷ (c.of_digit-else-number-lt-LEVEL_TWO.ensures ∙ e.1) i ∷ (c.of_digit-else-number-lt-LEVEL_TWO-2.ensures ∙ e.2) i
    ∷ (c.of_digit-else-number-lt-LEVEL_TWO-3.ensures ∙ e.3) i ∷ []
