use Rattle.std.proofs.Common.{◌≡◌, ◌-◌, ◌^◌, ◌≤◌, drop, Some, arith, ap, sym, ◌∙◌, subst, option_copied}
use Rattle.life_base.specs.declared.cell.TheConstants.{MAX_LEVEL}
use Rattle.life_base.specs.Tree.{blank}
use Rattle.life_strip.specs.Strip.{id_at, id_or, HaveColumns, Rise}
use Rattle.life_strip.proofs.MiddleLemmas.{blank-strip, blank-when, first-blank, first-is, first-sound, half-first, no-strips}
use Rattle.life_strip.proofs.SpanLemmas.{before_columns, content_or}
use Rattle.life_strip.proofs.middle.is_blank_north.Goals as goal

pub returns-in_default-clause-cell : goal.returns-in_default-clause-cell
returns-in_default-clause-cell g c h tall =
    absurd (no-strips c.args.strips.now (sym c.first.ensures.value ∙ ap option_copied c.in_default.is) tall)

pub returns-then-first-ne-HALF_LEVEL-clause-cell : goal.returns-then-first-ne-HALF_LEVEL-clause-cell
returns-then-first-ne-HALF_LEVEL-clause-cell g c h tall none =
    let e = first-is c.args.strips.now c.in-Some.first.now (sym c.first.ensures.value ∙ ap option_copied c.in-Some.is) in
    let level = half-first c.args.strips.now c.in-Some.first.now (drop 1 c.args.strips.now) e c.requires.strips.falling c.requires.space tall in
    c.if-first-ne-HALF_LEVEL.true level

pub has_outside-requires-clause-columns : goal.has_outside-requires-clause-columns
has_outside-requires-clause-columns g c =
    subst HaveColumns (sym c.as_slice.ensures.value)
    (before_columns (2 ^ (MAX_LEVEL - c.in-Some.first.now.level)) c.in-Some.first.now.spans.items
    (first-sound (g.S.Squares.knows c.args.squares.now) (g.S.Squares.content c.args.squares.now) c.args.strips.now c.in-Some.first.now
    (sym c.first.ensures.value ∙ ap option_copied c.in-Some.is) c.requires.strips.sound).1.within)

pub has_outside-requires-clause-rises : goal.has_outside-requires-clause-rises
has_outside-requires-clause-rises g c = subst Rise (sym c.as_slice.ensures.value) (first-sound (g.S.Squares.knows c.args.squares.now)
    (g.S.Squares.content c.args.squares.now) c.args.strips.now c.in-Some.first.now (sym c.first.ensures.value ∙ ap option_copied c.in-Some.is)
    c.requires.strips.sound).1.rises

pub returns-then-has_outside-clause-cell : goal.returns-then-has_outside-clause-cell
returns-then-has_outside-clause-cell g c h tall none =
    let store = c.args.squares.now in
    let C = g.S.Squares.content store in
    let x = c.in-Some.first.now in
    let at = first-sound (g.S.Squares.knows store) C c.args.strips.now x (sym c.first.ensures.value ∙ ap option_copied c.in-Some.is) c.requires.strips.sound in
    let level : x.level ≡ MAX_LEVEL - 1 = c.if-first-ne-HALF_LEVEL.false in
    let o = c.has_outside.ensures.some c.if-has_outside.true in
    let found = subst (λ z. id_at z o.0 ≡ Some o.1) c.as_slice.ensures.value o.3 in
    let tall : 2 ^ x.level ≤ 2 ^ (MAX_LEVEL - 1) = let e = ap (λ n. 2 ^ n) level in omega (arith, e) in
    let is = blank-when (g.S.Squares.knows store) C (g.met.S.Squares.full store) x at.1 (omega (arith, level))
    (first-blank C c.args.strips.now x (drop 1 c.args.strips.now) (2 ^ (MAX_LEVEL - 1)) at.0 tall none) o.0 o.1 found in
    o.4 (c.empty-blank.ensures.alone o.1 (at.1.squares o.0 o.1 found).0 (is ∙ ap blank level))

pub returns-clause-blank : goal.returns-clause-blank
returns-clause-blank g c t =
    let store = c.args.squares.now in
    let C = g.S.Squares.content store in
    let x = c.in-Some.first.now in
    let at = first-sound (g.S.Squares.knows store) C c.args.strips.now x (sym c.first.ensures.value ∙ ap option_copied c.in-Some.is) c.requires.strips.sound in
    let level : x.level ≡ MAX_LEVEL - 1 = c.if-first-ne-HALF_LEVEL.false in
    let e = c.empty-blank.ensures in
    let b = c.empty-blank.result in
    let is = e.square ∙ ap blank (sym level) in
    record {
      north = x;
      first = at.0;
      level = ap (λ n. 2 ^ n) level;
      blank = blank-strip C x (λ i. sym (content_or (g.S.Squares.knows store) C x.level x.spans.items at.1.squares b e.known is i)
          ∙ ap (λ z. C (id_or b (id_at z i))) (sym c.as_slice.ensures.value)
          ∙ ap C (c.has_outside.ensures.none c.if-has_outside.false i (λ h. omega (arith, h.1))) ∙ is);
    }
