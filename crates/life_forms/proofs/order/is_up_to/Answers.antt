use Rattle.std.proofs.Common.{◌≡◌, Bool, true, false, not, [], refl, sym, ap, ◌∙◌, subst, true≢false, append-nil, Ordering, Less, Equal, Greater, is_gt}
use Rattle.std.specs.Ordering.{is_lt}
use Rattle.life_writer.specs.Lesser.{IsUpTo}
use Rattle.life_writer.proofs.OrderFacts.{old-is-lesser}
use Rattle.life_forms.proofs.order.is_up_to.Goals as goal

fails : (b : Bool) → not b ≡ true → b ≡ false
fails true e = absurd (true≢false (sym e))
fails false e = refl

holds : (b : Bool) → not b ≡ false → b ≡ true
holds true e = refl
holds false e = absurd (true≢false e)

not-greater : (o : Ordering) → is_lt o ≡ true → is_gt o ≡ false
not-greater Less e = refl
not-greater Equal e = refl
not-greater Greater e = absurd (true≢false (sym e))

pub returns-clause-first : goal.returns-clause-first
returns-clause-first c = λ up.
    let first = c.args.first.now in
    let second = c.args.second.now in
    subst (IsUpTo first) (append-nil second)
    (old-is-lesser second first [] (ap is_lt (sym c.cmp.ensures) ∙ sym c.is_lt.ensures ∙ fails c.is_lt.result up))

pub returns-clause-second : goal.returns-clause-second
returns-clause-second c = λ up. record { order = not-greater _ (ap is_lt (sym c.cmp.ensures) ∙ sym c.is_lt.ensures ∙ holds c.is_lt.result up) }
