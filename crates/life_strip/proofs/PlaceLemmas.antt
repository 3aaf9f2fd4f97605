-- Facts about the places where strips stand.
use Rattle.life_base.specs.declared.cell.TheConstants.{MAX_LEVEL}
use Rattle.std.proofs.Common.{◌≡◌, ℕ, suc, ◌+◌, ◌-◌, ◌*◌, ◌/◌, ◌^◌, ◌≤◌, ◌<◌, Bool, true, false, nat_lt, nat_le, List, None, refl, sym, ◌∙◌, ap, subst, arith, if◌then◌else◌}
use Rattle.life_quad.specs.declared.id.Id.{Id}
use Rattle.life_base.specs.Tree.{Tree, quad, depth, blank}
use Rattle.life_strip.specs.declared.spans.Span.{Span}
use Rattle.life_strip.specs.declared.spans.StripPlace.{StripPlace}
use Rattle.life_strip.specs.declared.spans.TheConstants.{NEVER}
use Rattle.life_strip.specs.Strip.{id_at, id_or, square_or_blank, square_at, quad_at, IsStrip, IsAt, AreBefore, AreWithin, square_in, goes_to}
use Rattle.life_strip.proofs.SpanLemmas.{none_beyond, past_later, half-side, known_or, content_or, depth-square_at}

module _ (spans : List Span) (a : ℕ) (p : StripPlace) (h : IsAt spans a p) where
  -- the same place, seen from a later column that is not beyond its start
  pub at-later : (c : ℕ) → a ≤ c → c ≤ p.start → c < p.end → IsAt spans c p
  at-later c le start end = record {
    past = past_later spans p.index a c h.past le;
    from = start;
    beyond = end;
    none = λ x from lt. h.none x (omega (arith, le, from)) lt;
    some = h.some;
    span = h.span;
    over = h.over;
    order = h.order;
    within = h.within;
  }

  -- the Id in a column before its end
  pub at-square : (b : Id) (c : ℕ) → a ≤ c → c < p.end → id_or b (id_at spans c) ≡ square_in p b c
  at-square b c le end = by (nat_le p.start c) refl
    where
      by : (t : Bool) → nat_le p.start c ≡ t → id_or b (id_at spans c) ≡ (if nat_le p.start c then p.square else b)
      by true e = ap (id_or b) (h.some c (grind arith) end) ∙ sym (ap (λ z. if z then p.square else b) e)
      by false e = ap (id_or b) (h.none c le (grind arith)) ∙ sym (ap (λ z. if z then p.square else b) e)

  -- one square goes on
  pub at-same : (w c : ℕ) → a ≤ w → w < p.end → w ≤ c → c < goes_to p w → id_at spans c ≡ id_at spans w
  at-same w c le end from lt = by (nat_le p.start w) refl lt
    where
      by : (t : Bool) → nat_le p.start w ≡ t → c < (if nat_le p.start w then p.end else p.start) → id_at spans c ≡ id_at spans w
      by true e l =
          let start : p.start ≤ w = grind arith in
          let less : c < p.end = subst (λ z. c < (if z then p.end else p.start)) e l in
          h.some c (omega (arith, start, from)) less ∙ sym (h.some w start end)
      by false e l =
          let start : w < p.start = grind arith in
          let less : c < p.start = subst (λ z. c < (if z then p.end else p.start)) e l in
          h.none c (omega (arith, le, from)) less ∙ sym (h.none w le start)

  -- no farther than the span
  pub goes-end : (w : ℕ) → goes_to p w ≤ p.end
  goes-end w = let o = h.order in by o (nat_le p.start w)
    where
      by : p.start ≤ p.end → (t : Bool) → (if t then p.end else p.start) ≤ p.end
      by o true = omega arith
      by o false = o

  -- where no span is left
  pub at-over : (side : ℕ) → AreBefore side spans → side ≤ NEVER → NEVER ≤ p.start → (c : ℕ) → a ≤ c → id_at spans c ≡ None
  at-over side before small over c le = by (nat_lt c p.start) refl
    where
      by : (t : Bool) → nat_lt c p.start ≡ t → id_at spans c ≡ None
      by true e = h.none c le (grind arith)
      by false e = none_beyond spans side c before (let l : p.start ≤ c = grind arith in omega (arith, l, small, over))

-- the squares that two strips have in a column before the ends of their places
module _ (knows : Id → Type 0) (content : Id → Tree) (level : ℕ) (spans : List Span) (s : IsStrip knows content level spans) (b : Id) (known : knows b)
    (is_blank : content b ≡ blank level) (a : ℕ) (p : StripPlace) (h : IsAt spans a p) (c : ℕ) (le : a ≤ c) (end : c < p.end) where
  pub at-known : knows (square_in p b c)
  at-known = subst knows (at-square spans a p h b c le end) (known_or knows content level spans s b known is_blank c)

  pub at-content : content (square_in p b c) ≡ square_at content level spans c
  at-content = ap content (sym (at-square spans a p h b c le end)) ∙ content_or knows content level spans s b known is_blank c

  pub at-depth : depth (content (square_in p b c)) ≡ level
  at-depth = ap depth at-content ∙ depth-square_at knows content level spans s c

-- the squares of two columns go on
pub quad-goes : (content : Id → Tree) (level : ℕ) (upper lower : List Span) (column x : ℕ) (n s : StripPlace) → IsAt upper (2 * column) n
    → IsAt lower (2 * column) s
    → column < x → 2 * x + 1 < goes_to n (2 * column) → 2 * x + 1 < goes_to s (2 * column) → quad_at content level upper lower x
    ≡ quad_at content level upper lower column
quad-goes content level upper lower column x n s hn hs lt north south =
    let at = square_or_blank content level in
    let nb = hn.beyond in
    let sb = hs.beyond in
    let up = λ (c : ℕ) (from : 2 * column ≤ c) (most : c ≤ 2 * x + 1). at-same upper (2 * column) n hn (2 * column) c (omega arith) nb from
    (omega (arith, most, north)) in
    let down = λ (c : ℕ) (from : 2 * column ≤ c) (most : c ≤ 2 * x + 1). at-same lower (2 * column) s hs (2 * column) c (omega arith) sb from
    (omega (arith, most, south)) in
    let two = λ (c d : ℕ) (from : 2 * column ≤ c) (most : c ≤ 2 * x + 1) (from' : 2 * column ≤ d) (most' : d ≤ 2 * x + 1).
    up c from most ∙ sym (up d from' most') in
    let below = λ (c d : ℕ) (from : 2 * column ≤ c) (most : c ≤ 2 * x + 1) (from' : 2 * column ≤ d) (most' : d ≤ 2 * x + 1).
    down c from most ∙ sym (down d from' most') in
    let a : 2 * column ≤ 2 * x = omega (arith, lt) in
    let b : 2 * x ≤ 2 * x + 1 = omega arith in
    let c : 2 * column ≤ 2 * x + 1 = omega (arith, lt) in
    let d : 2 * column ≤ 2 * column + 1 = omega arith in
    let e : 2 * column + 1 ≤ 2 * x + 1 = omega (arith, lt) in
    λ i. quad (at (two (2 * x) (2 * column) a b (omega arith) c i)) (at (two (2 * x + 1) (2 * column + 1) c (omega arith) d e i))
    (at (below (2 * x) (2 * column) a b (omega arith) c i)) (at (below (2 * x + 1) (2 * column + 1) c (omega arith) d e i))

-- the first column where one of two strips has a span
pub record IsFilePrefix (n s : StripPlace) (column first side : ℕ) : Type 0 where
  pub from : 2 * column ≤ first
  pub begin : column ≤ first / 2
  pub within : first / 2 < side
  pub north : first ≤ n.start
  pub south : first ≤ s.start
  pub north_end : 2 * (first / 2) < n.end
  pub south_end : 2 * (first / 2) < s.end
  pub reach : (e : ℕ) → e ≤ goes_to n (2 * (first / 2)) → e ≤ goes_to s (2 * (first / 2)) → e ≤ 2 * side

module _ (level : ℕ) (upper lower : List Span) (low : level < MAX_LEVEL) (u : AreWithin level upper) (l : AreWithin level lower) (column : ℕ) (n s : StripPlace)
    (hn : IsAt upper (2 * column) n) (hs : IsAt lower (2 * column) s) where
  pub prefix : (first : ℕ) → first ≤ n.start → first ≤ s.start → (n.start ≤ s.start → first ≡ n.start) → (s.start < n.start → first ≡ s.start)
      → first < NEVER → IsFilePrefix n s column first (2 ^ (MAX_LEVEL - suc level))
  prefix first north south one other small = record {
    from = from;
    begin = omega (arith, from);
    within = (cases (nat_le n.start s.start) refl).0;
    north = north;
    south = south;
    north_end = end upper (2 ^ (MAX_LEVEL - level)) u n hn north;
    south_end = end lower (2 ^ (MAX_LEVEL - level)) l s hs south;
    reach = (cases (nat_le n.start s.start) refl).1;
  }
    where
      side : ℕ
      side = 2 ^ (MAX_LEVEL - suc level)

      twice : 2 ^ (MAX_LEVEL - level) ≡ 2 * side
      twice = half-side level low

      begun : 2 * column ≤ n.start
      begun = hn.from

      begins : 2 * column ≤ s.start
      begins = hs.from

      from : 2 * column ≤ first
      from = by (nat_le n.start s.start) refl
        where
          by : (b : Bool) → nat_le n.start s.start ≡ b → 2 * column ≤ first
          by true e = let same = one (grind arith) in let b = begun in omega (arith, same, b)
          by false e = let same = other (grind arith) in let b = begins in omega (arith, same, b)

      end : (spans : List Span) (most : ℕ) → AreBefore most spans → (p : StripPlace) → IsAt spans (2 * column) p → first ≤ p.start → 2 * (first / 2) < p.end
      end spans most before p h le = by (nat_lt p.start NEVER) refl
        where
          by : (b : Bool) → nat_lt p.start NEVER ≡ b → 2 * (first / 2) < p.end
          by true e = let w = h.within most before (grind arith) in let a = w.0 in omega (arith, le, a)
          by false e = let long : NEVER ≤ p.start = grind arith in let o = h.order in omega (arith, long, small, o)

      -- the span of a strip that has the first column ends in the plane
      ended : (spans : List Span) → AreWithin level spans → (p : StripPlace) → IsAt spans (2 * column) p → first ≡ p.start
          → (first / 2 < side) × ((e : ℕ) → e ≤ goes_to p (2 * (first / 2)) → e ≤ 2 * side)
      ended spans within p h same =
          let w = h.within (2 ^ (MAX_LEVEL - level)) within (omega (arith, same, small)) in
          let t = twice in
          let a = w.0 in
          let b = w.1 in
          let g = goes-end spans (2 * column) p h (2 * (first / 2)) in
          (omega (arith, same, t, a, b), λ e goes. omega (arith, goes, g, b, t))

      cases : (b : Bool) → nat_le n.start s.start ≡ b
          → (first / 2 < side) × ((e : ℕ) → e ≤ goes_to n (2 * (first / 2)) → e ≤ goes_to s (2 * (first / 2)) → e ≤ 2 * side)
      cases true e = let w = ended upper u n hn (one (grind arith)) in (w.0, λ x hx hy. w.1 x hx)
      cases false e = let w = ended lower l s hs (other (grind arith)) in (w.0, λ x hx hy. w.1 x hy)
