use Rattle.std.proofs.Common.{◌≡◌, ℕ, ◌+◌, ◌-◌, ◌<◌, ◌++◌, ◌∷◌, [], List, length, get_or, Option, Some, None, length-append, arith, sym, ◌∙◌, ap, refl, subst, slice_get, option_copied, option_to_list, IsSome, MatchOption}
use Rattle.std.proofs.Math.Seq.{get_or-append_seam}
use Rattle.std.proofs.lemmas.Option.{same_Some, get_or_from_slice_get, slice_get_within}
use Rattle.life_strip.specs.declared.spans.Strip.{Strip}
use Rattle.life_strip.specs.Picture.{IsNotLast}
use Rattle.life_strip.proofs.rows.take_last.Goals as goal

-- the last strip is taken, and it has its level
consumed : (xs ys : List Strip) (level : ℕ) (last : Strip) (o : Option Strip) → xs ≡ ys ++ option_to_list o → (0 < length xs → IsSome o)
    → slice_get xs (length xs - 1) ≡ Some last → last.level ≡ level
    → MatchOption o ((ys ≡ xs) × IsNotLast level xs) (λ s. (xs ≡ ys ++ s ∷ []) × (s.level ≡ level))
consumed xs ys level last None items some there same =
    let none : IsSome {T = Strip} None = some (let within = slice_get_within xs (length xs - 1) last there in omega (arith, within)) in
    absurd cc
consumed xs ys level last (Some s) items some there same =
    let n : length xs ≡ length ys + 1 = ap length items ∙ length-append ys (s ∷ []) in
    let k : length xs - 1 ≡ length ys = omega (arith, n) in
    let at = ap (λ z. get_or z (length xs - 1) s) items ∙ ap (λ i. get_or (ys ++ s ∷ []) i s) k ∙ get_or-append_seam ys s [] s in
    (items, ap (λ z. z.level) (sym at ∙ get_or_from_slice_get xs (length xs - 1) last s there) ∙ same)

pub returns-in_default : goal.returns-in_default
returns-in_default c =
    let at = subst (λ z. slice_get z (length z - 1) ≡ None) c.deref.ensures.value (sym c.last.ensures.value ∙ ap option_copied c.in_default.is) in
    (refl, λ last there. absurd (let none = sym at ∙ there in cc))

pub returns-then-last-level : goal.returns-then-last-level
returns-then-last-level c =
    let at = subst (λ z. slice_get z (length z - 1) ≡ Some c.in-Some.last.now) c.deref.ensures.value
    (sym c.last.ensures.value ∙ ap option_copied c.in-Some.is) in
    (refl, λ last there same. c.if-last-level.true (ap (λ s. s.level) (same_Some _ _ (sym at ∙ there)) ∙ same))

pub returns : goal.returns
returns c =
    let ok = c.args.strips.now.ok.0 in
    consumed c.args.strips.now.items c.pop.new.self.items c.args.level c.in-Some.last.now c.pop.result c.pop.ensures.items
    (λ some. c.pop.ensures.variant.1 (omega (arith, some, ok)))
    (subst (λ z. slice_get z (length z - 1) ≡ Some c.in-Some.last.now) c.deref.ensures.value (sym c.last.ensures.value ∙ ap option_copied c.in-Some.is))
    c.if-last-level.false
