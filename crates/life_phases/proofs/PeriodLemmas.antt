-- The search for the period, generation after generation.
use Rattle.std.proofs.Common.{◌≡◌, ◌≢◌, ◌⊎◌, inl, inr, ℕ, ◌+◌, ◌-◌, ◌<◌, ◌≤◌, false, ℤ, neg_ℤ, ◌+ℤ◌, List, Option, Some, None, refl, sym, ◌∙◌, ap, ap₂, subst, arith}
use Rattle.std.proofs.lemmas.Int.{ints}
use Rattle.life_base.specs.Refusal.{fault_of}
use Rattle.life_base.specs.Rules.{has_digit}
use Rattle.life_base.specs.Sets.{OuterTotalistic}
use Rattle.life_base.specs.Tree.{Tree, tree_cell, IsFull}
use Rattle.life_base.specs.declared.fault.Fault.{Fault}
use Rattle.life_base.specs.declared.kind.Kind.{Kind}
use Rattle.life_base.proofs.Basics.{le_or_lt}
use Rattle.life_quad.specs.Keeping.{IsShortageKind}
use Rattle.life_leap.specs.After.{after}
use Rattle.life_leap.proofs.AfterLemmas.{after-adds}
use Rattle.life_later.specs.Course.{IsCourseFault, LeavesWithin}
use Rattle.life_later.proofs.CourseLemmas.{blank-later, then-later}
use Rattle.life_later.proofs.StayLemmas.{leaves-then, stays-then}
use Rattle.life_phases.specs.Middle.{IsInMiddle, IsMovedBy, IsSquareInMiddle, NoShift, moved_by}
use Rattle.life_phases.specs.Periods.{HasNoPeriodUpTo, HasPeriod, IsFirstFault, IsLeastPeriod, IsPeriodFault, IsPeriodUpTo, LeavesFirst, LeavesFromMiddle, still_life}
use Rattle.life_phases.specs.declared.period.Period.{Period}
use Rattle.life_phases.proofs.MiddleLemmas.{same-middle, same-pattern}
use Rattle.life_phases.proofs.ShiftLemmas.{moved-as, moved-back, moved-then, period-moved}

-- ---- whether a square is another one, moved

-- the first square has a cell
pub has-cell : (s : Tree) → IsSquareInMiddle s → ((x y : ℤ) → tree_cell s x y ≡ 0) → ⊥
has-cell s middle none = middle.middle.at_left.1 (none _ _)

pub none-moved : (s t : Tree) → IsSquareInMiddle s → ((x y : ℤ) → tree_cell t x y ≡ 0) → NoShift (tree_cell s) (tree_cell t)
none-moved s t middle none a b m = has-cell s middle (λ x y. sym (m.cells x y) ∙ none _ _)

module _ (s t u : Tree) (a b : ℤ) (moved : IsMovedBy a b (tree_cell t) (tree_cell u)) where
  pub other-moved : IsSquareInMiddle s → IsSquareInMiddle u → IsFull s → IsFull u → s ≢ u → NoShift (tree_cell s) (tree_cell t)
  other-moved first second fs fu not c d m =
      not (same-middle s u first second _ _ (moved-then c d (tree_cell s) (tree_cell t) m a b (tree_cell u) moved) fs fu)

  pub same-moved : (c d : ℤ) → u ≡ s → neg_ℤ a ≡ c → neg_ℤ b ≡ d → IsMovedBy c d (tree_cell s) (tree_cell t)
  same-moved c d is ex ey =
      moved-as (neg_ℤ a) (neg_ℤ b) (tree_cell s) (tree_cell t)
      (subst (λ v. IsMovedBy (neg_ℤ a) (neg_ℤ b) (tree_cell v) (tree_cell t)) is (moved-back a b (tree_cell t) (tree_cell u) moved)) c d ex ey

-- ---- one generation after another

module _ (rule : OuterTotalistic) (cells : ℤ → ℤ → ℕ) where
  pub none-yet : HasNoPeriodUpTo rule cells 0
  none-yet n a b le h = let some = h.some in omega (arith, some, le)

  leaves-more : (m n : ℕ) → m ≤ n → LeavesWithin rule m cells → LeavesWithin rule n cells
  leaves-more m n le h =
      let w = h.within in
      record {
        generation = h.generation;
        some = h.some;
        within = omega (arith, le, w);
        x = h.x;
        y = h.y;
        outside = h.outside;
        nonzero = h.nonzero;
      }

  pub stays-most : (most n : ℕ) → most ≤ n → ¬ (LeavesWithin rule n cells) → ¬ (LeavesFirst rule most cells)
  stays-most most n le stays h = let w = h.within in stays (leaves-more h.generation n (omega (arith, le, w)) h.leaves)

  -- the pattern n + 1 generations later, of which the first square has the cells
  module _ (n : ℕ) (none : HasNoPeriodUpTo rule cells n) (s u : Tree) (first : (x y : ℤ) → tree_cell s x y ≡ cells x y)
      (later : (x y : ℤ) → tree_cell u x y ≡ after rule (n + 1) cells x y) where
    same-first : tree_cell s ≡ cells
    same-first = λ i x y. first x y i

    same-later : tree_cell u ≡ after rule (n + 1) cells
    same-later = λ i x y. later x y i

    period-here : (a b : ℤ) → IsMovedBy a b (tree_cell s) (tree_cell u) → HasPeriod rule cells (n + 1) a b
    period-here a b m =
        record {
          some = omega arith;
          moved = subst (λ f. IsMovedBy a b f (after rule (n + 1) cells)) same-first (subst (IsMovedBy a b (tree_cell s)) same-later m);
        }

    not-here : NoShift (tree_cell s) (tree_cell u) → (a b : ℤ) → ¬ (HasPeriod rule cells (n + 1) a b)
    not-here unmoved a b h =
        unmoved a b
        (subst (IsMovedBy a b (tree_cell s)) (sym same-later) (subst (λ f. IsMovedBy a b f (after rule (n + 1) cells)) (sym same-first) h.moved))

    pub none-further : NoShift (tree_cell s) (tree_cell u) → HasNoPeriodUpTo rule cells (n + 1)
    none-further unmoved m a b le h = by (le_or_lt m n)
      where
        by : (m ≤ n) ⊎ (n < m) → ⊥
        by (inl l) = none m a b l h
        by (inr l) = let e : m ≡ n + 1 = omega (arith, l, le) in not-here unmoved a b (subst (λ k. HasPeriod rule cells k a b) e h)

    pub least-here : IsSquareInMiddle s → (period : Period) → period.generations ≡ n + 1
        → IsMovedBy period.shift.columns period.shift.rows (tree_cell s) (tree_cell u) → IsLeastPeriod rule cells period
    least-here middle period is m = record {
      is = subst (λ k. HasPeriod rule cells k period.shift.columns period.shift.rows) (sym is) (period-here _ _ m);
      least = λ k a b h. by k a b h (le_or_lt k n);
      still = λ blank. absurd (has-cell s middle (λ x y. first x y ∙ blank x y));
    }
      where
        by : (k : ℕ) (a b : ℤ) → HasPeriod rule cells k a b → (k ≤ n) ⊎ (n < k) → period.generations ≤ k
        by k a b h (inl l) = absurd (none k a b l h)
        by k a b h (inr l) = omega (arith, is, l)

    pub stays-here : (a b : ℤ) → IsMovedBy a b (tree_cell s) (tree_cell u) → ¬ (LeavesWithin rule (n + 1) cells) → (most : ℕ)
        → ¬ (LeavesFirst rule most cells)
    stays-here a b m stays most h = by (le_or_lt h.generation (n + 1))
      where
        by : (h.generation ≤ n + 1) ⊎ (n + 1 < h.generation) → ⊥
        by (inl l) = stays (leaves-more h.generation (n + 1) l h.leaves)
        by (inr l) = h.none (n + 1) a b l (period-here a b m)

    -- a pattern that dies is never the same again, and doesn't leave the plane
    module _ (quiet : has_digit rule.sets.births 0 ≡ false) (dead : (x y : ℤ) → tree_cell u x y ≡ 0) (most : ℕ) where
      blank-at : (m : ℕ) → n < m → (x y : ℤ) → after rule m cells x y ≡ 0
      blank-at m l x y =
          let k = m - (n + 1) in
          let e : k + (n + 1) ≡ m = omega (arith, l) in
          ap (λ j. after rule j cells x y) (sym e) ∙ ap (λ (p : ℤ → ℤ → ℕ). p x y) (after-adds rule k (n + 1) cells ∙ ap (after rule k) (sym same-later))
          ∙ sym (blank-later rule k u quiet dead x y) ∙ dead x y

      pub none-after_death : IsSquareInMiddle s → HasNoPeriodUpTo rule cells most
      none-after_death middle m a b le h = by (le_or_lt m n)
        where
          by : (m ≤ n) ⊎ (n < m) → ⊥
          by (inl l) = none m a b l h
          by (inr l) = has-cell s middle (λ x y. first x y ∙ sym (h.moved.cells x y) ∙ blank-at m l _ _)

      pub stays-after_death : ¬ (LeavesWithin rule n cells) → ¬ (LeavesFirst rule most cells)
      stays-after_death stays h = by (le_or_lt h.leaves.generation n)
        where
          by : (h.leaves.generation ≤ n) ⊎ (n < h.leaves.generation) → ⊥
          by (inl l) = stays (record {
            generation = h.leaves.generation;
            some = h.leaves.some;
            within = l;
            x = h.leaves.x;
            y = h.leaves.y;
            outside = h.leaves.outside;
            nonzero = h.leaves.nonzero;
          })
          by (inr l) = h.leaves.nonzero (blank-at h.leaves.generation l _ _)

-- one generation further
pub one-later : (rule : OuterTotalistic) (n : ℕ) (s t u : Tree) → ((x y : ℤ) → tree_cell t x y ≡ after rule n (tree_cell s) x y)
    → ((x y : ℤ) → tree_cell u x y ≡ after rule 1 (tree_cell t) x y) → (x y : ℤ) → tree_cell u x y ≡ after rule (n + 1) (tree_cell s) x y
one-later rule n s t u first second x y =
    let e : 1 + n ≡ n + 1 = omega arith in
    then-later rule n 1 s t u first second x y ∙ ap (λ k. after rule k (tree_cell s) x y) e

pub one-stays : (rule : OuterTotalistic) (n : ℕ) (s t : Tree) → ((x y : ℤ) → tree_cell t x y ≡ after rule n (tree_cell s) x y)
    → ¬ (LeavesWithin rule n (tree_cell s)) → ¬ (LeavesWithin rule 1 (tree_cell t)) → ¬ (LeavesWithin rule (n + 1) (tree_cell s))
one-stays rule n s t later first second h =
    let e : n + 1 ≡ 1 + n = omega arith in
    let same : tree_cell t ≡ after rule n (tree_cell s) = (λ i x y. later x y i) in
    stays-then rule n 1 (tree_cell s) (tree_cell t) same first second (subst (λ k. LeavesWithin rule k (tree_cell s)) e h)

-- ---- refusals

pub first-refused : (rule : OuterTotalistic) (most n : ℕ) (s t : Tree) (stored : List Tree) (limit : ℕ) (fault : Fault) → n < most
    → HasNoPeriodUpTo rule (tree_cell s) n → ((x y : ℤ) → tree_cell t x y ≡ after rule n (tree_cell s) x y)
    → IsCourseFault rule 1 (tree_cell t) stored limit fault → IsFirstFault rule most (tree_cell s) fault
first-refused rule most n s t stored limit fault l none later (inl (inl memory)) = inl memory
first-refused rule most n s t stored limit fault l none later (inl (inr full)) = inr (inl full.0)
first-refused rule most n s t stored limit fault l none later (inr h) =
    let same : tree_cell t ≡ after rule n (tree_cell s) = (λ i x y. later x y i) in
    inr (inr (
      h.0,
      record {
        generation = 1 + n;
        within = omega (arith, l);
        leaves = leaves-then rule n 1 (tree_cell s) (tree_cell t) same h.1;
        none = λ m a b le p. none m a b (omega (arith, le)) p;
      },
    ))

there-and-back-again : (x a : ℤ) → (x +ℤ a) +ℤ neg_ℤ a ≡ x
there-and-back-again x a = omega (arith, ints)

-- ---- from the middle back to where the pattern is

module _ (rule : OuterTotalistic) (most : ℕ) (a b : ℤ) (f g : ℤ → ℤ → ℕ) (moved : IsMovedBy a b f g) where
  back-moved : IsMovedBy (neg_ℤ a) (neg_ℤ b) g f
  back-moved = moved-back a b f g moved

  pub period-back : (answer : Option Period) → IsPeriodUpTo rule g most answer → IsPeriodUpTo rule f most answer
  period-back None none = λ n c d le h. none n c d le (period-moved rule n a b c d f g moved h)
  period-back (Some period) (within, is) = (
    within,
    record {
      is = period-moved rule period.generations (neg_ℤ a) (neg_ℤ b) _ _ g f back-moved is.is;
      least = λ n c d h. is.least n c d (period-moved rule n a b c d f g moved h);
      still = λ blank. is.still (λ x y. sym (back-moved.cells x y) ∙ blank _ _);
    },
  )

module _ (rule : OuterTotalistic) (most : ℕ) (a b : ℤ) (f g : ℤ → ℤ → ℕ) (moved : IsMovedBy a b f g) (middle : IsInMiddle g) where
  back : IsMovedBy (neg_ℤ a) (neg_ℤ b) g f
  back = moved-back a b f g moved

  same-moved_by : moved_by a b f ≡ g
  same-moved_by = λ i x y. back.cells x y i

  pub fault-back : (fault : Fault) → IsFirstFault rule most g fault → IsPeriodFault rule most f fault
  fault-back fault (inl memory) = inl memory
  fault-back fault (inr (inl full)) = inr (inl full)
  fault-back fault (inr (inr h)) = inr (inr (
    h.0,
    record {
      columns = a;
      rows = b;
      middle = subst IsInMiddle (sym same-moved_by) middle;
      leaves = subst (LeavesFirst rule most) (sym same-moved_by) h.1;
    },
  ))

  -- the pattern is moved to the middle by one way
  pub stays-back : ¬ (LeavesFirst rule most g) → ¬ (LeavesFromMiddle rule most f)
  stays-back stays h =
      let other = moved_by h.columns h.rows f in
      let there : IsMovedBy h.columns h.rows f other = record { cells = λ x y. ap₂ f (there-and-back-again x h.columns) (there-and-back-again y h.rows) } in
      let way = moved-then (neg_ℤ h.columns) (neg_ℤ h.rows) other f (moved-back h.columns h.rows f other there) a b g moved in
      let same : g ≡ other = (λ i x y. same-pattern other g h.middle middle _ _ way x y i) in
      stays (subst (LeavesFirst rule most) (sym same) h.leaves)

pub shortage-back : (rule : OuterTotalistic) (most : ℕ) (cells : ℤ → ℤ → ℕ) (stored : List Tree) (limit : ℕ) (kind : Kind) (fault : Fault)
    → IsShortageKind stored limit kind → fault ≡ fault_of kind → IsPeriodFault rule most cells fault
shortage-back rule most cells stored limit kind fault (inl memory) is = inl (is ∙ ap fault_of memory)
shortage-back rule most cells stored limit kind fault (inr full) is = inr (inl (is ∙ ap fault_of full.0))

-- ---- patterns without cells

pub blank-stays_there : (rule : OuterTotalistic) (most : ℕ) (t : Tree) → ((x y : ℤ) → tree_cell t x y ≡ 0) → ¬ (LeavesFromMiddle rule most (tree_cell t))
blank-stays_there rule most t blank h = h.middle.at_left.1 (blank _ _)

module _ (rule : OuterTotalistic) (t : Tree) (blank : (x y : ℤ) → tree_cell t x y ≡ 0) (most : ℕ) where
  pub blank-none : most ≡ 0 → IsPeriodUpTo rule (tree_cell t) most None
  blank-none none n a b le h = let some = h.some in omega (arith, none, le, some)

  pub blank-still : has_digit rule.sets.births 0 ≡ false → 1 ≤ most → IsPeriodUpTo rule (tree_cell t) most (Some still_life)
  blank-still quiet some = (
    some,
    record {
      is = record { some = omega arith; moved = record { cells = λ x y. sym (blank-later rule 1 t quiet blank _ _) ∙ blank _ _ ∙ sym (blank x y) } };
      least = λ n a b h. h.some;
      still = λ _. (refl, refl);
    },
  )

  pub blank-period : has_digit rule.sets.births 0 ≡ false → (answer : Option Period) → (most ≡ 0 → answer ≡ None) → (1 ≤ most → answer ≡ Some still_life)
      → IsPeriodUpTo rule (tree_cell t) most answer
  blank-period quiet answer none some = by (le_or_lt most 0)
    where
      by : (most ≤ 0) ⊎ (0 < most) → IsPeriodUpTo rule (tree_cell t) most answer
      by (inl l) = let e : most ≡ 0 = omega (arith, l) in subst (IsPeriodUpTo rule (tree_cell t) most) (sym (none e)) (blank-none e)
      by (inr l) = let p : 1 ≤ most = omega (arith, l) in subst (IsPeriodUpTo rule (tree_cell t) most) (sym (some p)) (blank-still quiet p)

-- ---- the same pattern, moved by one way into two stores

pub moved-binary : (a b : ℤ) (f g : ℤ → ℤ → ℕ) → IsMovedBy a b f g → ((x y : ℤ) → f x y < 2) → (x y : ℤ) → g x y < 2
moved-binary a b f g moved binary x y = subst (λ n. n < 2) ((moved-back a b f g moved).cells x y) (binary _ _)

pub moved-twice : (a b : ℤ) (f g h : ℤ → ℤ → ℕ) → IsMovedBy a b f g → IsMovedBy a b f h → (x y : ℤ) → h x y ≡ g x y
moved-twice a b f g h first second x y = sym ((moved-back a b f h second).cells x y) ∙ (moved-back a b f g first).cells x y
