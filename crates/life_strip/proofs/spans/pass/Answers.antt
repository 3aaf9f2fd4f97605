use Rattle.std.proofs.Common.{◌≡◌, ℕ, ◌+◌, ◌≤◌, ◌<◌, List, length, get_or, true, false, Bool, nat_lt, arith, refl, sym, subst}
use Rattle.life_strip.specs.declared.spans.Span.{Span}
use Rattle.life_strip.specs.declared.spans.StripPlace.{StripPlace}
use Rattle.life_strip.specs.declared.spans.TheConstants.{NEVER}
use Rattle.life_strip.specs.Strip.{EndsAfter, HaveColumns, IsAt, IsPast, Rise}
use Rattle.life_strip.proofs.WordLemmas.{past-next}
use Rattle.life_strip.proofs.SpanLemmas.{past_later}
use Rattle.life_strip.proofs.spans.pass.Goals as goal

-- of an index that is none of the strip
abbrev none : Span
none = record { start = 0; end = 0; square = record { 0 = 0 } }

module _ (spans : List Span) (before column : ℕ) (p : StripPlace) (h : IsAt spans before p) (le : before ≤ column) (reach : column ≤ p.end)
    (small : column < NEVER) where
  -- a span is left
  inside : p.end ≤ column → p.index < length spans
  inside end = by (nat_lt p.index (length spans)) refl
    where
      by : (b : Bool) → nat_lt p.index (length spans) ≡ b → p.index < length spans
      by true e = grind arith
      by false e = absurd (let over = h.over (grind arith) in omega (arith, over, end, small))

  -- the spans from the index on have every later column
  index-past : (i : ℕ) → (column < p.end → i ≡ p.index) → (p.end ≤ column → i ≡ p.index + 1) → IsPast spans i column
  index-past i stays next = by (nat_lt column p.end) refl
    where
      by : (b : Bool) → nat_lt column p.end ≡ b → IsPast spans i column
      by true e = subst (λ k. IsPast spans k column) (sym (stays (grind arith))) (past_later spans p.index before column h.past le)
      by false e =
          let over : p.end ≤ column = grind arith in
          let left = inside over in
          let end = h.span none left in
          subst (λ k. IsPast spans k column) (sym (next over)) (past-next spans p.index column none
          (past_later spans p.index before column h.past le) left column (omega arith) (omega (arith, end, over)))

  -- the span at the index ends after the column
  index-ends : HaveColumns spans → Rise spans → (i : ℕ) → (column < p.end → i ≡ p.index) → (p.end ≤ column → i ≡ p.index + 1) → EndsAfter spans i column
  index-ends columns rises i stays next = by (nat_lt column p.end) refl
    where
      by : (b : Bool) → nat_lt column p.end ≡ b → EndsAfter spans i column
      by true e =
          let less : column < p.end = grind arith in
          subst (λ k. EndsAfter spans k column) (sym (stays less)) (λ d lt. let end = h.span d lt in omega (arith, end, less))
      by false e =
          let over : p.end ≤ column = grind arith in
          subst (λ k. EndsAfter spans k column) (sym (next over)) (λ d lt.
          let rise = rises p.index (p.index + 1) d (omega arith) lt in
          let some = columns (p.index + 1) d lt in
          let last = h.span d (inside over) in
          omega (arith, rise, some, last, reach))

  -- what ends as the span at the index does, or is beyond every column, ends no earlier than the place
  index-later : (i end : ℕ) → (column < p.end → i ≡ p.index) → column < end
      → ((d : Span) → i < length spans → end ≡ (get_or spans i d).end) → (length spans ≤ i → NEVER ≤ end) → p.end ≤ end
  index-later i end stays beyond ends over = by (nat_lt column p.end) refl (nat_lt p.index (length spans)) refl
    where
      by : (b : Bool) → nat_lt column p.end ≡ b → (l : Bool) → nat_lt p.index (length spans) ≡ l → p.end ≤ end
      by true e true f =
          let same : i ≡ p.index = stays (grind arith) in
          let left : p.index < length spans = grind arith in
          let own = h.span none left in
          let its : end ≡ (get_or spans p.index none).end = subst (λ k. k < length spans → end ≡ (get_or spans k none).end) same (ends none) left in
          omega (arith, own, its)
      by true e false f =
          let same : i ≡ p.index = stays (grind arith) in
          let gone : length spans ≤ p.index = grind arith in
          let long = over (omega (arith, same, gone)) in
          let own = h.over gone in
          omega (arith, long, own)
      by false e l f = let passed : p.end ≤ column = grind arith in omega (arith, passed, beyond)

pub index_from-index-requires : goal.index_from-index-requires
index_from-index-requires c = λ end.
    let h = c.requires.place in
    inside c.args.spans.now h.0 c.args.column c.args.place h.2 h.1 c.requires.reach c.requires.column end

pub place_at-requires : goal.place_at-requires
place_at-requires c =
    let h = c.requires.place in
    let spans = c.args.spans.now in
    let i = c.index_from-index.result in
    let r = c.requires in
    record {
      columns = r.columns;
      past = index-past spans h.0 c.args.column c.args.place h.2 h.1 r.reach r.column i c.index_from-index.ensures.stays c.index_from-index.ensures.next;
      ends = index-ends spans h.0 c.args.column c.args.place h.2 h.1 r.reach r.column r.columns r.rises i c.index_from-index.ensures.stays
          c.index_from-index.ensures.next;
      column = r.column;
    }

pub returns-clause-later : goal.returns-clause-later
returns-clause-later c =
    let h = c.requires.place in
    let e = c.place_at.ensures in
    index-later c.args.spans.now h.0 c.args.column c.args.place h.2 h.1 c.requires.reach c.requires.column c.index_from-index.result c.place_at.result.end
    c.index_from-index.ensures.stays e.place.beyond e.end e.over
