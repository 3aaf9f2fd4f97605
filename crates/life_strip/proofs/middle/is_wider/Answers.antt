use Rattle.std.proofs.Common.{◌≡◌, Some, ◌-◌, ◌^◌, arith, ap, sym, ◌∙◌, subst}
use Rattle.std.proofs.Math.Pow.{pow_mono}
use Rattle.life_base.specs.declared.cell.TheConstants.{MAX_LEVEL}
use Rattle.life_strip.specs.Strip.{id_at, id_or}
use Rattle.life_strip.proofs.MiddleLemmas.{adjacent-when, middle-half, wider-when}
use Rattle.life_strip.proofs.SpanLemmas.{content_or}
use Rattle.life_strip.proofs.middle.is_wider.Goals as goal

pub returns-then-strip-ge-HALF_LEVEL-clause-adjacent : goal.returns-then-strip-ge-HALF_LEVEL-clause-adjacent
returns-then-strip-ge-HALF_LEVEL-clause-adjacent g c none column row within live =
    let high = c.if-strip-ge-HALF_LEVEL.true in
    let p = pow_mono {i = MAX_LEVEL - 1} {j = c.args.strip.now.level} (omega (arith, high)) in
    (omega (arith, p), omega (arith, p, within))

pub returns-clause-wider : goal.returns-clause-wider
returns-clause-wider g c true adjacent =
    let s = c.args.strip.now in
    let store = c.args.squares.now in
    let high = c.requires.high in
    let e = c.middle_column-middle.ensures in
    let o = c.has_outside.ensures.some true in
    let at = subst (λ z. id_at z o.0 ≡ Some o.1) c.as_slice.ensures.value o.3 in
    let is = wider-when (g.S.Squares.content store) s (2 ^ (MAX_LEVEL - 1 - s.level)) (middle-half s.level high) (g.S.Squares.knows store)
    (g.met.S.Squares.full store) c.requires.sound (omega (arith, high)) o.0 o.1 (λ h. o.2 (omega (arith, h.0, e), omega (arith, h.1, e))) at adjacent in
    o.4 (c.empty-blank.ensures.alone o.1 (c.requires.sound.squares o.0 o.1 at).0 is)

pub returns-clause-adjacent : goal.returns-clause-adjacent
returns-clause-adjacent g c none =
    let s = c.args.strip.now in
    let C = g.S.Squares.content c.args.squares.now in
    let e = c.empty-blank.ensures in
    let m = c.middle_column-middle.ensures in
    adjacent-when C s (2 ^ (MAX_LEVEL - 1 - s.level)) (middle-half s.level c.requires.high) (λ x out.
    sym (content_or (g.S.Squares.knows c.args.squares.now) C s.level s.spans.items c.requires.sound.squares c.empty-blank.result e.known e.square x)
    ∙ ap (λ z. C (id_or c.empty-blank.result (id_at z x))) (sym c.as_slice.ensures.value)
    ∙ ap C (c.has_outside.ensures.none none x (λ h. out (omega (arith, h.0, m), omega (arith, h.1, m)))) ∙ e.square)
