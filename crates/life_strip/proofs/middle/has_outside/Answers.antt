use Rattle.std.proofs.Common.{subst, arith, sym, ◌∙◌}
use Rattle.std.proofs.lemmas.List.{take_all}
use Rattle.std.proofs.lemmas.List.Elements.{All-more}
use Rattle.life_strip.specs.declared.spans.Span.{Span}
use Rattle.life_strip.proofs.MiddleLemmas.{AreInside, IsInside, inside-blank, outside-span}
use Rattle.life_strip.proofs.middle.has_outside.Goals as goal

-- of an index that is none of the strip
abbrev none : Span
none = record { start = 0; end = 0; square = record { 0 = 0 } }

pub returns-then-is_outside-clause-some : goal.returns-then-is_outside-clause-some
returns-then-is_outside-clause-some c true =
    let h = c.is_outside.ensures.outside c.if-is_outside.true in
    let o = outside-span c.args.spans.now c.requires.columns c.requires.rises c.loop-span.span-index none (omega (arith, c.loop-span-test.true)) c.args.from
    c.args.to h.1 in
    (o.0, o.1, o.2, o.3, λ e. h.0 (sym o.4 ∙ e))

pub loop-span-preserved : goal.loop-span-preserved
loop-span-preserved c =
    All-more (IsInside c.args.from c.args.to c.args.blank) c.args.spans.now c.loop-span.span-index none (omega (arith, c.loop-span-test.true))
    c.loop-span.invariant
    (c.is_outside.ensures.inside c.if-is_outside.false)

pub returns-clause-none : goal.returns-clause-none
returns-clause-none c none column out =
    inside-blank c.args.from c.args.to c.args.blank c.args.spans.now
    (subst (AreInside c.args.from c.args.to c.args.blank) (take_all c.loop-span.span-index c.args.spans.now (omega (arith, c.loop-span-test.false)))
    c.loop-span.invariant) column out
