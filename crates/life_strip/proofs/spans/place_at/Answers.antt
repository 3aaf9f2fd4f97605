use Rattle.std.proofs.Common.{◌<◌, get_or, ap, arith}
use Rattle.std.proofs.lemmas.List.{get_or_default}
use Rattle.life_strip.specs.declared.spans.Span.{Span}
use Rattle.life_strip.proofs.WordLemmas.{span-at, gap-at, past-none}
use Rattle.life_strip.proofs.spans.place_at.Goals as goal

-- of an index that is none of the strip
abbrev none : Span
none = record { start = 0; end = 0; square = record { 0 = 0 } }

pub returns-then-index-spans-clause-place : goal.returns-then-index-spans-clause-place
returns-then-index-spans-clause-place c =
    let spans = c.args.spans.now in
    let index = c.args.index in
    let s = get_or spans index none in
    let inside = c.if-index-spans.true in
    let first = c.max.ensures in
    let ends : c.args.column < s.end = c.requires.ends none inside in
    let some = c.requires.columns index none inside in record {
      past = c.requires.past;
      from = omega (arith, first);
      beyond = ends;
      none = λ x from lt. gap-at spans index c.args.column none c.requires.past inside x from (omega (arith, first, from, lt))
          (omega (arith, first, from, lt, some));
      some = λ x from lt. span-at spans index c.args.column none c.requires.past inside x (omega (arith, first, from)) (omega (arith, first, from)) lt;
      span = λ d lt. ap (λ z. z.end) (get_or_default spans index none d inside);
      over = λ le. absurd (omega (arith, le, inside));
      order = omega (arith, first, ends, some);
      within = λ side before lt. (omega (arith, first, ends, some), (before index none inside).1);
    }

pub returns-clause-place : goal.returns-clause-place
returns-clause-place c = record {
  past = c.requires.past;
  from = omega (arith, c.requires.column);
  beyond = c.requires.column;
  none = λ x from lt. past-none c.args.spans.now c.args.index c.args.column c.requires.past (omega (arith, c.if-index-spans.false)) x from;
  some = λ x from lt. absurd (omega (arith, from, lt));
  span = λ d lt. absurd (omega (arith, lt, c.if-index-spans.false));
  over = λ le. omega arith;
  order = omega arith;
  within = λ side before lt. absurd (omega (arith, lt));
}

pub returns-then-index-spans-clause-end : goal.returns-then-index-spans-clause-end
returns-then-index-spans-clause-end c = λ d lt. ap (λ z. z.end) (get_or_default c.args.spans.now c.args.index none d c.if-index-spans.true)
