-- Each phase of a pattern that doesn't leave the plane underway is a shift of a pattern of the plane.
use Rattle.std.proofs.Common.{◌≡◌, ◌⊎◌, inl, inr, ℕ, zero, suc, ◌+◌, ◌/◌, ◌<◌, ◌≤◌, false, refl, sym, ◌∙◌, ap, ap₂, subst, ℤ, pos, negsuc, neg_ℤ, ◌+ℤ◌, ◌≤ℤ◌, arith, lit<}
use Rattle.std.proofs.lemmas.Int.{ints}
use Rattle.life_base.specs.Rules.{IsRule, has_digit}
use Rattle.life_base.specs.Sets.{OuterTotalistic}
use Rattle.life_base.specs.declared.bounds.Bounds.{Bounds}
use Rattle.life_base.specs.declared.cell.TheConstants.{MAX_LEVEL}
use Rattle.life_base.proofs.Basics.{zero_unless}
use Rattle.life_mc.specs.Macrocell.{largest_state}
use Rattle.life_next.proofs.NextLemmas.{next-zero}
use Rattle.life_writer.specs.Texts.{IsBoundingBox}
use Rattle.life_pattern.specs.Universe.{Universe, IsBlankOutside, IsOnPlane, IsWithin, corner}
use Rattle.life_forms.specs.Forms.{IsShift}
use Rattle.life_forms.proofs.ShiftFacts.{box-shifted, forth-and-back, has-box, moved_box, same-refl, shifted, still}
use Rattle.life_leap.specs.After.{after}
use Rattle.life_leap.specs.Edge.{IsPlaneCoordinate}
use Rattle.life_leap.proofs.AfterLemmas.{after-binary, after-one}
use Rattle.life_phases.specs.Middle.{IsInMiddle, IsMiddleSide, IsMovedBy, moved_by}
use Rattle.life_phases.specs.Periods.{HasPeriod, LeavesFirst}
use Rattle.life_phases.specs.declared.period.Period.{Period}
use Rattle.life_phases.proofs.ShiftLemmas.{moved-back, period-moved}
use Rattle.life_phase_forms.specs.Phases.{HasPhases, LeavesUnderway, begun, phase}
use Rattle.life_phase_forms.proofs.CourseLemmas.{phase-none, phase-shift}

-- ---- the middle of the plane

difference : (d low high : ℤ) → d ≡ high +ℤ neg_ℤ low → low ≤ℤ high → (n : ℕ) × (high ≡ low +ℤ pos n)
difference (pos n) low high e h = (n, omega (arith, ints, e))
difference (negsuc n) low high e h = absurd (omega (arith, ints, e, h))

-- a side can be moved to the middle
middle-way : (low high : ℤ) → low ≤ℤ high → (a : ℤ) × IsMiddleSide (low +ℤ a) (high +ℤ a)
middle-way low high h =
    let found = difference (high +ℤ neg_ℤ low) low high refl h in
    let n = found.0 in
    let e = found.1 in
    let m : ℕ = (n + 1) / 2 in
    let p : n ≤ m + m = omega arith in
    let q : m + m ≤ n + 1 = omega arith in (
      neg_ℤ low +ℤ neg_ℤ (pos m),
      record { low_end = omega (arith, ints, e, q); high_end = omega (arith, ints, e, p) },
    )

module _ (u : Universe) (box : Bounds) (least : IsBoundingBox u.cell box) where
  columns-order : box.left ≤ℤ box.right
  columns-order =
      let i = least.inside _ _ least.at_left.1 in
      i.1

  rows-order : box.top ≤ℤ box.bottom
  rows-order =
      let i = least.inside _ _ least.at_top.1 in
      i.3

  module _ (a b : ℤ) where
    abbrev shift-there : IsShift u (shifted u a b)
    shift-there = record {
      rule = refl;
      generation = refl;
      columns = a;
      rows = b;
      cells = λ x y. ap₂ u.cell (forth-and-back x a) (forth-and-back y b);
    }

    in-middle : IsMiddleSide (box.left +ℤ a) (box.right +ℤ a) → IsMiddleSide (box.top +ℤ b) (box.bottom +ℤ b) → IsInMiddle (moved_by a b u.cell)
    in-middle across down =
        let there = box-shifted u (shifted u a b) shift-there box least in
        record {
          box = moved_box box a b;
          inside = there.inside;
          at_left = there.at_left;
          at_right = there.at_right;
          at_top = there.at_top;
          at_bottom = there.at_bottom;
          across = across;
          down = down;
        }

-- ---- on the plane

within : (z : ℤ) → IsPlaneCoordinate z → IsWithin MAX_LEVEL z
unfolding corner
within z h =
    let from = h.from in
    let to = h.to in
    (omega (arith, ints, from), omega (arith, ints, to))

-- a pattern without cells stays so
blank-once : (rule : OuterTotalistic) (cells : ℤ → ℤ → ℕ) → has_digit rule.sets.births 0 ≡ false → ((x y : ℤ) → cells x y ≡ 0)
    → HasPeriod rule cells 1 (pos 0) (pos 0)
blank-once rule cells quiet blank =
    let next = λ (x y : ℤ). ap (λ (p : ℤ → ℤ → ℕ). p x y) (after-one rule cells) ∙ next-zero rule cells x y quiet (λ s t a b c d. blank s t) in
    record { some = omega arith; moved = record { cells = λ x y. next _ _ ∙ sym (blank x y) } }

pub begun-on-plane : (u : Universe) → IsOnPlane MAX_LEVEL u → IsOnPlane MAX_LEVEL (begun u)
begun-on-plane u plane = record { rule = plane.rule; generation = lit< tt; states = plane.states; outside = plane.outside }

-- so far a pattern is moved that lies on the plane
pub record IsMovedToPlane (u w : Universe) : Type 0 where
  pub shift : IsShift u w
  pub plane : IsOnPlane MAX_LEVEL w

module _ (most : ℕ) (u : Universe) (plane : IsOnPlane MAX_LEVEL u) (rule : OuterTotalistic) (period : Period) (h : HasPhases most u rule period)
    (stays : ¬ (LeavesUnderway most u)) where
  quiet : has_digit rule.sets.births 0 ≡ false
  quiet = let r = subst IsRule h.under plane.rule in r.no_birth_on_zero

  binary : (x y : ℤ) → u.cell x y < 2
  binary x y =
      let low = subst (λ q. u.cell x y ≤ largest_state q) h.under (plane.states x y) in
      omega (arith, low)

  module _ (box : Bounds) (least : IsBoundingBox u.cell box) (a b : ℤ) (across : IsMiddleSide (box.left +ℤ a) (box.right +ℤ a))
      (down : IsMiddleSide (box.top +ℤ b) (box.bottom +ℤ b)) (k : ℕ) (low : suc k < period.generations) where
    moved : IsMovedBy a b u.cell (moved_by a b u.cell)
    moved = record { cells = λ x y. ap₂ u.cell (forth-and-back x a) (forth-and-back y b) }

    leaves-first : (x y : ℤ) → ¬ (IsPlaneCoordinate x × IsPlaneCoordinate y) → (after rule (suc k) (moved_by a b u.cell) x y ≡ 0 → ⊥)
        → LeavesFirst rule most (moved_by a b u.cell)
    leaves-first x y out some = let l = h.within in record {
      generation = suc k;
      within = omega (arith, l, low);
      leaves = record { generation = suc k; some = omega arith; within = omega arith; x = x; y = y; outside = out; nonzero = some };
      none = λ n c d below p.
          let early = h.least.least n c d (period-moved rule n (neg_ℤ a) (neg_ℤ b) c d (moved_by a b u.cell) u.cell
          (moved-back a b u.cell (moved_by a b u.cell) moved) p) in
          absurd (omega (arith, early, below, low));
    }

    outside : IsBlankOutside MAX_LEVEL (after rule (suc k) (moved_by a b u.cell))
    outside x y out = zero_unless _ (λ some. stays (record {
      rule = rule;
      under = h.under;
      leaves = record {
        columns = a;
        rows = b;
        middle = in-middle u box least a b across down;
        leaves = leaves-first x y (λ c. out (within x c.0, within y c.1)) some;
      };
    }))

    states : (x y : ℤ) → after rule (suc k) (moved_by a b u.cell) x y ≤ largest_state u.rule
    states x y =
        let s = after-binary rule (suc k) (moved_by a b u.cell) (λ c d. binary _ _) x y in
        let l : after rule (suc k) (moved_by a b u.cell) x y ≤ 1 = omega (arith, s) in
        subst (λ q. after rule (suc k) (moved_by a b u.cell) x y ≤ largest_state q) (sym h.under) l

    in-place : (w : Universe) × IsMovedToPlane (phase rule (suc k) u) w
    in-place = (
      phase rule (suc k) (shifted u a b),
      record {
        shift = phase-shift rule (suc k) u (shifted u a b) (shift-there u box least a b);
        plane = record { rule = plane.rule; generation = lit< tt; states = states; outside = outside };
      },
    )

  later-phase : (k : ℕ) → suc k < period.generations → ((x y : ℤ) → u.cell x y ≡ 0) ⊎ ((box : Bounds) × IsBoundingBox u.cell box)
      → (w : Universe) × IsMovedToPlane (phase rule (suc k) u) w
  later-phase k low (inl blank) =
      let one = h.least.least 1 (pos 0) (pos 0) (blank-once rule u.cell quiet blank) in
      absurd (omega (arith, one, low))
  later-phase k low (inr (box, least)) =
      let columns = middle-way box.left box.right (columns-order u box least) in
      let rows = middle-way box.top box.bottom (rows-order u box least) in
      in-place box least columns.0 rows.0 columns.1 rows.1 k low

  pub phase-on-plane : (k : ℕ) → k < period.generations → (w : Universe) × IsMovedToPlane (phase rule k u) w
  phase-on-plane zero low = (
    begun u,
    record {
      shift = subst (λ v. IsShift v (begun u)) (sym (phase-none rule u)) (still _ _ (same-refl (begun u)));
      plane = begun-on-plane u plane;
    },
  )
  phase-on-plane (suc k) low = later-phase k low (has-box MAX_LEVEL u plane.outside)
