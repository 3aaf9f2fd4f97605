-- Two strips of one span each at most, whose squares make one square of the next level, or the same one in several columns.
use Rattle.std.proofs.Common.{◌≡◌, ℕ, suc, ◌+◌, ◌-◌, ◌*◌, ◌^◌, ◌<◌, ◌≤◌, nat_lt, Bool, true, false, ◌⊎◌, inl, inr, List, [], ◌∷◌, None, refl, sym, ◌∙◌, ap, arith}
use Rattle.life_base.specs.declared.cell.TheConstants.{MAX_LEVEL}
use Rattle.life_base.specs.Tree.{Tree, quad, depth, blank}
use Rattle.life_quad.specs.declared.id.Id.{Id}
use Rattle.life_strip.specs.declared.single.Columns.{Columns}
use Rattle.life_strip.specs.declared.spans.Span.{Span}
use Rattle.life_strip.specs.Strip.{id_at, square_or_blank, AreOnlyColumns, AreWithin, FilledTo, IsOnly, IsPaired, IsStrip, quad_at}
use Rattle.life_strip.proofs.SpanLemmas.{depth-square_at, extended-push, filled-all, filled-more, filled-skip, half-side, id_at-in, quad-blank}

-- no other column has a square
pub only-none : (spans : List Span) (columns : Columns) → IsOnly spans columns → (x : ℕ) → (x < 2 * columns.start) ⊎ (2 * columns.end ≤ x)
    → id_at spans x ≡ None
only-none [] columns only x away = refl
only-none (s ∷ []) columns only x away =
    let there = only.there 0 s (omega arith) in
    let from : 2 * columns.start ≤ s.start = there.0 in
    let to : s.end ≤ 2 * columns.end = there.1 in
    by away from to
  where
    by : (x < 2 * columns.start) ⊎ (2 * columns.end ≤ x) → 2 * columns.start ≤ s.start → s.end ≤ 2 * columns.end → id_at (s ∷ []) x ≡ None
    by (inl west) from to = let before : x < s.start = omega (arith, west, from) in grind arith
    by (inr east) from to = let after : s.end ≤ x = omega (arith, east, to) in grind arith
only-none (s ∷ t ∷ spans) columns only x away = let few = only.few in absurd (omega (arith, few))

-- if there are several columns, one square goes through all of them
pub only-through : (spans : List Span) (columns : Columns) → IsOnly spans columns → columns.start + 1 < columns.end → (x y : ℕ)
    → 2 * columns.start ≤ x → x < 2 * columns.end → 2 * columns.start ≤ y → y < 2 * columns.end → id_at spans x ≡ id_at spans y
only-through [] columns only several x y xw xe yw ye = refl
only-through (s ∷ []) columns only several x y xw xe yw ye =
    let filled = only.filled several 0 s (omega arith) in
    let from : s.start ≤ 2 * columns.start = filled.0 in
    let to : 2 * columns.end ≤ s.end = filled.1 in
    id_at-in s [] x (omega (arith, xw, from)) (omega (arith, xe, to)) ∙ sym (id_at-in s [] y (omega (arith, yw, from)) (omega (arith, ye, to)))
only-through (s ∷ t ∷ spans) columns only several x y xw xe yw ye = let few = only.few in absurd (omega (arith, few))

-- the columns are on the plane
pub only-within : (level : ℕ) (columns : Columns) (upper lower : List Span) → level < MAX_LEVEL → AreOnlyColumns upper lower columns
    → AreWithin level upper → AreWithin level lower → columns.end ≤ 2 ^ (MAX_LEVEL - suc level)
only-within level columns upper lower low only above below =
    let within = only.within (2 ^ (MAX_LEVEL - level)) above below in
    let half = half-side level low in
    omega (arith, within, half)

module _ (K K' : Id → Type 0) (C C' : Id → Tree) (level : ℕ) (columns : Columns) (upper lower : List Span) (u : IsStrip K C level upper)
    (only : AreOnlyColumns upper lower columns) (id : Id) (known : K' id) (is : C' id ≡ quad_at C level upper lower columns.start) where
  abbrev want : ℕ → Tree
  want = quad_at C level upper lower

  abbrev one : List Span
  one = record { start = columns.start; end = columns.end; square = id } ∷ []

  west : (c : ℕ) → c < columns.start → want c ≡ blank (suc level)
  west c lt =
      quad-blank C level upper lower 0 c (λ x from to. only-none upper columns only.above x (inl (omega (arith, lt, to))))
      (λ x from to. only-none lower columns only.below x (inl (omega (arith, lt, to)))) (omega arith)

  east : (c : ℕ) → columns.end ≤ c → want c ≡ blank (suc level)
  east c le =
      quad-blank C level upper lower (2 * c) c (λ x from to. only-none upper columns only.above x (inr (omega (arith, le, from))))
      (λ x from to. only-none lower columns only.below x (inr (omega (arith, le, from)))) (omega arith)

  -- every column has the square of the first one
  through : (c : ℕ) → columns.start ≤ c → c < columns.end → want c ≡ want columns.start
  through c from to = by (nat_lt (columns.start + 1) columns.end) refl
    where
      several : columns.start + 1 < columns.end → want c ≡ want columns.start
      several more =
          let first : columns.start < columns.end = only.some in
          let a = only-through upper columns only.above more (2 * c) (2 * columns.start) (omega (arith, from)) (omega (arith, to)) (omega arith)
          (omega (arith, first)) in
          let b = only-through upper columns only.above more (2 * c + 1) (2 * columns.start + 1) (omega (arith, from)) (omega (arith, to)) (omega arith)
          (omega (arith, first)) in
          let d = only-through lower columns only.below more (2 * c) (2 * columns.start) (omega (arith, from)) (omega (arith, to)) (omega arith)
          (omega (arith, first)) in
          let e = only-through lower columns only.below more (2 * c + 1) (2 * columns.start + 1) (omega (arith, from)) (omega (arith, to)) (omega arith)
          (omega (arith, first)) in
          let square = square_or_blank C level in
          λ i. quad (square (a i)) (square (b i)) (square (d i)) (square (e i))

      by : (b : Bool) → nat_lt (columns.start + 1) columns.end ≡ b → want c ≡ want columns.start
      by true e = several (grind arith)
      by false e = let few : columns.end ≤ columns.start + 1 = grind arith in
          let same : c ≡ columns.start = omega (arith, few, from, to) in
          ap want same

  none : FilledTo K' C' (suc level) want [] 0
  none = record {
    before = λ k d lt. absurd (omega (arith, lt));
    rises = λ i j d lt within. absurd (omega (arith, within));
    strip = λ c q at. absurd cc;
    done = λ c lt. absurd (omega (arith, lt));
  }

  -- the one span is the strip
  pub only-filled : FilledTo K' C' (suc level) want one columns.end
  only-filled =
      let skipped = filled-skip K' C' (suc level) want [] 0 columns.start none (omega arith) (λ c le lt. west c lt) in
      filled-more {knows = K'} {knows' = K'} {now = C'} {now' = C'} (λ q k. (k, refl)) (suc level) want [] one columns.start columns.end id skipped
      (extended-push columns.start columns.end id only.some [] skipped.before) known
      (ap depth is ∙ ap suc (depth-square_at K C level upper u (2 * columns.start)))
      (λ c le lt. through c le lt ∙ sym is)

  pub only-paired : IsPaired C C' level upper lower one
  only-paired = filled-all K' C' (suc level) want one columns.end only-filled (λ c le. east c le)
