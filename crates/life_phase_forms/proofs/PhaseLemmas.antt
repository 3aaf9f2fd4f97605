-- The squares of the phases, and why a phase is refused.
use Rattle.std.proofs.Common.{◌≡◌, inl, inr, ℕ, ◌+◌, ◌<◌, ◌≤◌, false, refl, sym, ◌∙◌, ap, subst, ℤ, neg_ℤ, List, arith, lit≤}
use Rattle.life_base.specs.Refusal.{fault_of}
use Rattle.life_base.specs.Rules.{has_digit}
use Rattle.life_base.specs.Sets.{OuterTotalistic}
use Rattle.life_base.specs.Tree.{Tree, depth, tree_cell, IsFull}
use Rattle.life_base.specs.declared.cell.TheConstants.{MAX_LEVEL}
use Rattle.life_base.specs.declared.fault.Fault.{Fault}
use Rattle.life_base.specs.declared.kind.Kind.{Kind}
use Rattle.life_base.specs.declared.kind.Kind.TheVariants as kinds
use Rattle.life_base.specs.declared.rule.Rule.TheVariants.{Life}
use Rattle.life_mc.specs.Squares.{HasStatesUpTo}
use Rattle.life_quad.specs.Keeping.{IsShortageKind}
use Rattle.life_quad.specs.Moves.{trimmed_square}
use Rattle.life_quad.specs.Store.{Nodes, content}
use Rattle.life_quad.specs.declared.id.Id.{Id}
use Rattle.life_quad.proofs.LawLemmas.{known_squares_are_full, trimmed_is_fixed, trimming_keeps_cells, trimming_stops}
use Rattle.life_pattern.specs.Laws.{SquaresAreCentred}
use Rattle.life_writer.specs.Lesser.{IsLesserText}
use Rattle.life_pattern.specs.Store.{IsKnown, IsTrimmed}
use Rattle.life_pattern.specs.Universe.{centred_square, corner, square_universe}
use Rattle.life_forms.specs.Forms.{IsShift}
use Rattle.life_forms.specs.Images.{IsTurnedText}
use Rattle.life_forms.proofs.PatternFacts.{cell-up-to, square-up-to}
use Rattle.life_forms.proofs.ShiftFacts.{shift-sym}
use Rattle.life_leap.specs.After.{after}
use Rattle.life_later.specs.Course.{IsCourseFault, LeavesWithin}
use Rattle.life_later.proofs.StayLemmas.{leaves-then}
use Rattle.life_phases.specs.Middle.{IsInMiddle, IsMovedBy, moved_by}
use Rattle.life_phases.specs.Periods.{IsLeastPeriod, LeavesFirst, LeavesFromMiddle}
use Rattle.life_phases.specs.declared.period.Period.{Period}
use Rattle.life_phases.proofs.PeriodLemmas.{blank-still}
use Rattle.life_phases.proofs.ShiftLemmas.{moved-back, period-moved}
use Rattle.life_phase_forms.specs.OfFile.{IsMemoryOrFull}
use Rattle.life_phase_forms.specs.Phases.{IsLeastOfPhases, phase}
use Rattle.life_phase_forms.proofs.CourseLemmas.{phase-shift, turned-of-shift}
use Rattle.life_phase_forms.proofs.TextLemmas.{first-least, least-again, more-least, turned-again}

-- ---- squares

below-two : (n : ℕ) → n < 2 → n ≤ 1
below-two n h = omega arith

-- a square without blank outer parts is the root of a pattern
pub square-trimmed : SquaresAreCentred → (rule : OuterTotalistic) (store : Nodes) (root : Id) → IsKnown store root → 3 ≤ depth (content store root)
    → trimmed_square (content store root) 3 ≡ content store root → ((x y : ℤ) → tree_cell (content store root) x y < 2)
    → IsTrimmed store (record { rule = Life rule; generation = 0; root = root })
unfolding centred_square
square-trimmed centre rule store root known low trimmed binary =
    let t = content store root in
    let full = (known_squares_are_full store root known.0).0 in
    record {
      known = known;
      level = low;
      trimmed = trimmed;
      states = subst (HasStatesUpTo 1) (centre t full (omega (arith, low))).0
          (square-up-to 1 (tree_cell t) (λ x y. below-two _ (binary x y)) (depth t) (corner (depth t)) (corner (depth t)));
    }

up-to-one : (n : ℕ) → n ≤ 1 → n < 2
up-to-one n h = omega arith

pub trimmed-binary : (t : Tree) → HasStatesUpTo 1 t → (x y : ℤ) → tree_cell t x y < 2
trimmed-binary t states x y = up-to-one _ (cell-up-to 1 t states x y)

-- a square that is moved is a shift
pub moved-square : (rule : OuterTotalistic) (s t : Tree) (a b : ℤ) → IsMovedBy a b (tree_cell s) (tree_cell t)
    → IsShift (square_universe (Life rule) 0 s) (square_universe (Life rule) 0 t)
moved-square rule s t a b m = record { rule = refl; generation = refl; columns = a; rows = b; cells = m.cells }

-- the text of a moved square is that of the square, and so is the least text of its phases
pub moved-text : (rule : OuterTotalistic) (s t : Tree) (a b : ℤ) (text : List ℕ) → IsMovedBy a b (tree_cell s) (tree_cell t)
    → IsTurnedText MAX_LEVEL (square_universe (Life rule) 0 s) text → IsTurnedText MAX_LEVEL (square_universe (Life rule) 0 t) text
moved-text rule s t a b text m h = turned-again MAX_LEVEL _ _ text (turned-of-shift _ _ (moved-square rule s t a b m)) h

pub moved-least : (rule : OuterTotalistic) (count : ℕ) (s t : Tree) (a b : ℤ) (text : List ℕ) → IsMovedBy a b (tree_cell s) (tree_cell t)
    → IsLeastOfPhases MAX_LEVEL rule count (square_universe (Life rule) 0 t) text
    → IsLeastOfPhases MAX_LEVEL rule count (square_universe (Life rule) 0 s) text
moved-least rule count s t a b text m h =
    let u = square_universe (Life rule) 0 s in
    let v = square_universe (Life rule) 0 t in
    least-again MAX_LEVEL rule count v u text (λ k. turned-of-shift _ _ (phase-shift rule k v u (shift-sym u v (moved-square rule s t a b m)))) h

-- the text of one phase more
pub next-least : (rule : OuterTotalistic) (n : ℕ) (s t : Tree) (best text lesser : List ℕ)
    → ((x y : ℤ) → tree_cell t x y ≡ after rule n (tree_cell s) x y) → IsLeastOfPhases MAX_LEVEL rule n (square_universe (Life rule) 0 s) best
    → IsTurnedText MAX_LEVEL (square_universe (Life rule) 0 t) text → IsLesserText best text lesser
    → IsLeastOfPhases MAX_LEVEL rule (n + 1) (square_universe (Life rule) 0 s) lesser
next-least rule n s t best text lesser later h new is =
    let u = square_universe (Life rule) 0 s in
    let same : square_universe (Life rule) 0 t ≡ phase rule n u = (λ i. record { rule = Life rule; generation = 0; cell = λ x y. later x y i }) in
    more-least MAX_LEVEL rule n u best text lesser h (subst (λ v. IsTurnedText MAX_LEVEL v text) same new) is

-- a square without cells has one phase
pub blank-least : (rule : OuterTotalistic) (period : Period) (t : Tree) (text : List ℕ) → has_digit rule.sets.births 0 ≡ false
    → ((x y : ℤ) → tree_cell t x y ≡ 0) → IsLeastPeriod rule (tree_cell t) period → IsTurnedText MAX_LEVEL (square_universe (Life rule) 0 t) text
    → IsLeastOfPhases MAX_LEVEL rule period.generations (square_universe (Life rule) 0 t) text
blank-least rule period t text quiet blank least h =
    let still = (blank-still rule t blank 1 quiet (omega arith)).1.is in
    let most = least.least 1 _ _ still in
    let some = least.is.some in
    let one : 1 ≡ period.generations = omega (arith, most, some) in
    let u = square_universe (Life rule) 0 t in
    subst (λ n. IsLeastOfPhases MAX_LEVEL rule n u text) one (first-least MAX_LEVEL rule u text h)

-- ---- the plane

module _ (rule : OuterTotalistic) where
  pub leaves-more : (m n : ℕ) (cells : ℤ → ℤ → ℕ) → m ≤ n → LeavesWithin rule m cells → LeavesWithin rule n cells
  leaves-more m n cells le h =
      let w = h.within in
      record {
        generation = h.generation;
        some = h.some;
        within = omega (arith, le, w);
        x = h.x;
        y = h.y;
        outside = h.outside;
        nonzero = h.nonzero;
      }

  -- if so many generations don't leave the plane, neither does one after fewer
  pub next-stays : (n count : ℕ) (f g : ℤ → ℤ → ℕ) → ((x y : ℤ) → g x y ≡ after rule n f x y) → n + 1 ≤ count → ¬ (LeavesWithin rule count f)
      → ¬ (LeavesWithin rule 1 g)
  next-stays n count f g later le stays h =
      let same : g ≡ after rule n f = (λ i x y. later x y i) in
      stays (leaves-more (1 + n) count f (omega (arith, le)) (leaves-then rule n 1 f g same h))

  -- a pattern with a period that doesn't leave the plane from the middle doesn't leave it in its period, moved there
  pub period-stays : (f g : ℤ → ℤ → ℕ) (a b : ℤ) (period : Period) → IsMovedBy a b f g → IsInMiddle g → IsLeastPeriod rule f period
      → ¬ (LeavesFromMiddle rule period.generations f) → ¬ (LeavesWithin rule period.generations g)
  period-stays f g a b period moved middle least stays h =
      let back = moved-back a b f g moved in
      let same : g ≡ moved_by a b f = (λ i x y. sym (back.cells x y) i) in
      stays (record {
        columns = a;
        rows = b;
        middle = subst IsInMiddle same middle;
        leaves = subst (LeavesFirst rule period.generations) same (record {
          generation = period.generations;
          within = omega arith;
          leaves = h;
          none = λ n c d below p.
              let early = least.least n c d (period-moved rule n (neg_ℤ a) (neg_ℤ b) c d g f back p) in
              absurd (omega (arith, early, below));
        });
      })

-- ---- refusals

pub shortage-want : (stored : List Tree) (limit : ℕ) (kind : Kind) (fault : Fault) → fault ≡ fault_of kind → IsShortageKind stored limit kind
    → IsMemoryOrFull fault
shortage-want stored limit kind fault is (inl memory) = inl (is ∙ ap fault_of memory)
shortage-want stored limit kind fault is (inr full) = inr (is ∙ ap fault_of full.0)

pub course-want : (rule : OuterTotalistic) (n : ℕ) (cells : ℤ → ℤ → ℕ) (stored : List Tree) (limit : ℕ) (fault : Fault)
    → IsCourseFault rule n cells stored limit fault → ¬ (LeavesWithin rule n cells) → IsMemoryOrFull fault
course-want rule n cells stored limit fault (inl (inl memory)) stays = inl memory
course-want rule n cells stored limit fault (inl (inr full)) stays = inr full.0
course-want rule n cells stored limit fault (inr leaves) stays = absurd (stays leaves.1)
