-- Facts about what a refused call had to store.
use Rattle.std.proofs.Common.{◌≡◌, ℕ, ◌+◌, ◌-◌, ◌^◌, ◌≤◌, ◌<◌, Bool, true, false, nat_lt, ◌⊎◌, inl, inr, refl, sym, ◌∙◌, ap, subst, arith, if◌then◌else◌}
use Rattle.life_base.specs.Tree.{Tree, point, quad, depth, blank, state_at, IsFull}
use Rattle.life_quad.specs.Moves.{grown_square}
use Rattle.life_quad.specs.Refused.{SomePart}
use Rattle.life_quad.specs.declared.runs.RowSpan.{RowSpan}
use Rattle.life_quad.specs.Span.{SetsSpan, SetsHalves}
use Rattle.life_quad.proofs.SpanLemmas.{is_within, SetsSpan-north, SetsSpan-south}
use Rattle.life_base.proofs.Basics.{double}

-- a part of a northern or of a southern quarter
pub SomePart-north : (P : Tree → Type 0) (a b c d : Tree) → SomePart P a ⊎ SomePart P b → SomePart P (quad a b c d)
SomePart-north P a b c d (inl p) = inr (inl p)
SomePart-north P a b c d (inr p) = inr (inr (inl p))

pub SomePart-south : (P : Tree → Type 0) (a b c d : Tree) → SomePart P c ⊎ SomePart P d → SomePart P (quad a b c d)
SomePart-south P a b c d (inl p) = inr (inr (inr (inl p)))
SomePart-south P a b c d (inr p) = inr (inr (inr (inr p)))

-- the grown square of four quarters, around which e is blank, and a part of it
module _ (t a b c d e : Tree) (whole : t ≡ quad a b c d) (is_blank : e ≡ blank (depth a)) where
  pub grown_is : quad (quad e e e a) (quad e e b e) (quad e c e e) (quad d e e e) ≡ grown_square t
  grown_is = ap (λ u. quad (quad u u u a) (quad u u b u) (quad u c u u) (quad d u u u)) is_blank ∙ ap grown_square (sym whole)

  pub SomePart-grown : (P : Tree → Type 0) → SomePart P (quad (quad e e e a) (quad e e b e) (quad e c e e) (quad d e e e)) → SomePart P (grown_square t)
  SomePart-grown P = subst (SomePart P) grown_is

-- the parts of a span in two halves: what is set of the left one, and of the right one where the span goes on from the left one
abbrev pub first_of : ℕ → RowSpan → RowSpan
first_of half span = record span { len = half - span.column }

abbrev pub rest_of : ℕ → RowSpan → RowSpan
rest_of half span = record span { column = 0; len = span.column + span.len - half }

-- the columns of a span that ends in the left half, of one that begins in the right half, and of one in both
in_left : (span : RowSpan) (half i j : ℕ) → span.column + span.len ≤ half → false ≡ is_within span (half + i) j
in_left span half i j h = grind (arith, h)

of_right : (span : RowSpan) (half i j : ℕ) → half ≤ span.column → i < half → false ≡ is_within span i j
of_right span half i j h l = grind (arith, h, l)

in_right : (span : RowSpan) (half i j : ℕ) → half ≤ span.column → is_within (record span { column = span.column - half }) i j ≡ is_within span (half + i) j
in_right span half i j h = grind (arith, h)

left_of_both : (span : RowSpan) (half i j : ℕ) → span.column < half → half < span.column + span.len → i < half
    → is_within (first_of half span) i j ≡ is_within span i j
left_of_both span half i j h l m = grind (arith, h, l, m)

right_of_both : (span : RowSpan) (half i j : ℕ) → span.column < half → half < span.column + span.len
    → is_within (rest_of half span) i j ≡ is_within span (half + i) j
right_of_both span half i j h l = grind (arith, h, l)

-- two squares side by side, of this side, with a span set in the left one, in the right one, or in both
module _ (left right : Tree) (half : ℕ) (span : RowSpan) (side : half ≡ 2 ^ depth left) (level : depth right ≡ depth left) where
  within_right : {n : ℕ} → n < 2 ^ depth left → n < 2 ^ depth right
  within_right {n} h = subst (λ d. n < 2 ^ d) (sym level) h

  moved_column : (i j : ℕ) → is_within span (half + i) j ≡ is_within span (2 ^ depth left + i) j
  moved_column i j = ap (λ h. is_within span (h + i) j) side

  pub SetsHalves-left : (new : Tree) → IsFull right → span.column + span.len ≤ half → SetsSpan left new span → SetsHalves left right new right span
  SetsHalves-left new full h s =
      record {
        left_full = s.full;
        left_level = s.level;
        right_full = full;
        right_level = refl;
        left_cells = s.cells;
        right_cells = λ i j li lj. ap (λ b. if b then span.state else state_at right i j) (in_left span half i j h ∙ moved_column i j);
      }

  pub SetsHalves-right : (new : Tree) → IsFull left → half ≤ span.column → SetsSpan right new (record span { column = span.column - half })
      → SetsHalves left right left new span
  SetsHalves-right new full h s =
      record {
        left_full = full;
        left_level = refl;
        right_full = s.full;
        right_level = s.level;
        left_cells = λ i j li lj. ap (λ b. if b then span.state else state_at left i j) (of_right span half i j h (subst (λ n. i < n) (sym side) li));
        right_cells = λ i j li lj. s.cells i j (within_right li) (within_right lj)
            ∙ ap (λ b. if b then span.state else state_at right i j) (in_right span half i j h ∙ moved_column i j);
      }

  pub SetsHalves-both : (a b : Tree) → span.column < half → half < span.column + span.len → SetsSpan left a (first_of half span)
      → SetsSpan right b (rest_of half span) → SetsHalves left right a b span
  SetsHalves-both a b h l s t =
      record {
        left_full = s.full;
        left_level = s.level;
        right_full = t.full;
        right_level = t.level;
        left_cells = λ i j li lj. s.cells i j li lj
            ∙ ap (λ c. if c then span.state else state_at left i j) (left_of_both span half i j h l (subst (λ n. i < n) (sym side) li));
        right_cells = λ i j li lj. t.cells i j (within_right li) (within_right lj)
            ∙ ap (λ c. if c then span.state else state_at right i j) (right_of_both span half i j h l ∙ moved_column i j);
      }

-- two equal squares, set from end to end
pub SetsHalves-same : (left right new : Tree) (half : ℕ) (span : RowSpan) → half ≡ 2 ^ depth left → left ≡ right → span.column < half
    → span.column + span.len ≤ half + half → span.len ≡ half + half → SetsSpan left new (first_of half span) → SetsHalves left right new new span
SetsHalves-same left right new half span side same inside within whole s =
    let first : span.column ≡ 0 = omega (arith, within, whole) in
    let beyond : half < span.column + span.len = omega (arith, inside, whole) in
    let len : half - span.column ≡ span.column + span.len - half = omega (arith, first, whole) in
    let rest : SetsSpan left new (rest_of half span) = subst (SetsSpan left new) (λ i. record span { column = first i; len = len i }) s in
    SetsHalves-both left right half span side (ap depth (sym same)) new new inside beyond s (subst (λ u. SetsSpan u new (rest_of half span)) same rest)

-- a square with the state in the span, for each span of the square
abbrev pub HasSpans : Tree → Type 0
HasSpans t =
    (span : RowSpan) → span.state < 256 → 1 ≤ span.len → span.column + span.len ≤ 2 ^ depth t → span.row < 2 ^ depth t → (new : Tree) × SetsSpan t new span

-- the same of two squares side by side
halves_with_span : (left right : Tree) → IsFull left → IsFull right → depth right ≡ depth left → HasSpans left → HasSpans right
    → (span : RowSpan) → span.state < 256 → 1 ≤ span.len → span.column + span.len ≤ 2 ^ depth left + 2 ^ depth left → span.row < 2 ^ depth left
    → (a b : Tree) × SetsHalves left right a b span
halves_with_span left right fl fr level hl hr span small positive within low = by (nat_lt (2 ^ depth left) (span.column + span.len)) refl
    (nat_lt span.column (2 ^ depth left)) refl
  where
    side : 2 ^ depth right ≡ 2 ^ depth left
    side = ap (λ d. 2 ^ d) level

    low_right : span.row < 2 ^ depth right
    low_right = subst (λ n. span.row < n) (sym side) low

    by : (p : Bool) → nat_lt (2 ^ depth left) (span.column + span.len) ≡ p → (q : Bool) → nat_lt span.column (2 ^ depth left) ≡ q
        → (a b : Tree) × SetsHalves left right a b span
    by false g q h =
        let fits : span.column + span.len ≤ 2 ^ depth left = grind (arith, g) in
        let s = hl span small positive fits low in
        (s.0, right, SetsHalves-left left right (2 ^ depth left) span refl level s.0 fr fits s.1)
    by true g false h =
        let from : 2 ^ depth left ≤ span.column = grind (arith, h) in
        let fits : span.column - 2 ^ depth left + span.len ≤ 2 ^ depth left = omega (arith, within, from) in
        let s = hr (record span { column = span.column - 2 ^ depth left }) small positive
        (subst (λ n. span.column - 2 ^ depth left + span.len ≤ n) (sym side) fits) low_right in
        (left, s.0, SetsHalves-right left right (2 ^ depth left) span refl level s.0 fl from s.1)
    by true g true h =
        let from : span.column < 2 ^ depth left = grind (arith, h) in
        let beyond : 2 ^ depth left < span.column + span.len = grind (arith, g) in
        let s = hl (first_of (2 ^ depth left) span) small (omega (arith, from)) (omega (arith, from)) low in
        let fits : 0 + (span.column + span.len - 2 ^ depth left) ≤ 2 ^ depth left = omega (arith, within, beyond) in
        let t = hr (rest_of (2 ^ depth left) span) small (omega (arith, beyond))
        (subst (λ n. 0 + (span.column + span.len - 2 ^ depth left) ≤ n) (sym side) fits) low_right in
        (s.0, t.0, SetsHalves-both left right (2 ^ depth left) span refl level s.0 t.0 from beyond s.1 t.1)

-- the same of a square of four quarters
quad_with_span : (a b c d : Tree) → IsFull (quad a b c d) → HasSpans a → HasSpans b → HasSpans c → HasSpans d
    → HasSpans (quad a b c d)
quad_with_span a b c d full ha hb hc hd span small positive within low = by (nat_lt span.row (2 ^ depth a)) refl
  where
    by : (p : Bool) → nat_lt span.row (2 ^ depth a) ≡ p → (new : Tree) × SetsSpan (quad a b c d) new span
    by true g =
        let north : span.row < 2 ^ depth a = grind (arith, g) in
        let h = halves_with_span a b full.0 full.1 full.4 ha hb span small positive (subst (λ n. span.column + span.len ≤ n) (double (depth a)) within)
        north in
        (quad h.0 h.1 c d, SetsSpan-north a b c d h.0 h.1 span full north h.2)
    by false g =
        let south : 2 ^ depth a ≤ span.row = grind (arith, g) in
        let side : 2 ^ depth c ≡ 2 ^ depth a = ap (λ k. 2 ^ k) full.5 in
        let e = double (depth a) in
        let fits : span.column + span.len ≤ 2 ^ depth c + 2 ^ depth c = omega (arith, within, e, side) in
        let under : span.row - 2 ^ depth a < 2 ^ depth c = omega (arith, low, south, e, side) in
        let h = halves_with_span c d full.2 full.3 (full.6 ∙ sym full.5) hc hd (record span { row = span.row - 2 ^ depth a }) small positive fits under in
        (quad a b h.0 h.1, SetsSpan-south a b c d h.0 h.1 span full south h.2)

-- and of a square of one cell
pub span_of_point : (t new : Tree) (span : RowSpan) → depth t ≡ 0 → new ≡ point span.state → span.state < 256 → 1 ≤ span.len
    → span.column + span.len ≤ 2 ^ depth t → span.row < 2 ^ depth t → SetsSpan t new span
span_of_point (quad a b c d) new span flat is small positive within low = absurd (omega arith)
span_of_point (point s) new span flat is small positive within low =
    subst (λ u. SetsSpan (point s) u span) (sym is)
    (record { full = small; level = refl; cells = λ i j li lj. ap (λ b. if b then span.state else s) (whole i j li lj) })
  where
    whole : (i j : ℕ) → i < 1 → j < 1 → true ≡ is_within span i j
    whole i j li lj = grind (arith, positive, within, low, li, lj)

-- every full square has one
pub with_span : (t : Tree) → IsFull t → HasSpans t
with_span (point s) full = λ span small positive within low.
    (point span.state, span_of_point (point s) (point span.state) span refl refl small positive within low)
with_span (quad a b c d) full =
    quad_with_span a b c d full (with_span a full.0) (with_span b full.1) (with_span c full.2) (with_span d full.3)
