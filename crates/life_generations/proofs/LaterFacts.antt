-- Later generations of a pattern, and why one isn't given.
use Rattle.std.proofs.Common.{◌≡◌, ◌≢◌, ◌⊎◌, inl, inr, ℕ, ◌+◌, ◌-◌, ◌^◌, ◌<◌, ◌≤◌, ℤ, List, Option, None, Some, refl, sym, ◌∙◌, ap, subst, arith}
use Rattle.std.proofs.lemmas.Int.{ints}
use Rattle.life_base.specs.Refusal.{fault_of}
use Rattle.life_base.specs.Sets.{OuterTotalistic}
use Rattle.life_base.specs.Tree.{Tree}
use Rattle.life_base.specs.declared.cell.TheConstants.{MAX_LEVEL}
use Rattle.life_base.specs.declared.fault.Fault.{Fault}
use Rattle.life_base.specs.declared.kind.Kind.TheVariants as kinds
use Rattle.life_base.specs.declared.rule.Rule.{Rule}
use Rattle.life_base.specs.declared.rule.Rule.TheVariants.{Life, Named}
use Rattle.life_quad.specs.Keeping.{IsShortageFault}
use Rattle.life_pattern.specs.Universe.{Universe, corner}
use Rattle.life_leap.specs.After.{after}
use Rattle.life_leap.proofs.AfterLemmas.{after-adds, after-none, after-one}
use Rattle.life_later.specs.Course.{IsCourseFault, LeavesWithin}
use Rattle.life_leap.specs.Edge.{IsPlaneCoordinate}
use Rattle.life_step.specs.Refusals.{IsOfPlane, LeavesByRule, LifeRefusal, RuleRefusal}
use Rattle.life_generations.specs.Later.{IsStateAfter, LaterRefusal, LaterRuleRefusal}

-- ---- states

-- no generation later each cell has its state
pub state-now : (rule : Rule) (cell : ℤ → ℤ → ℕ) (x y : ℤ) (state : ℕ) → state ≡ cell x y → IsStateAfter 0 rule cell x y state
state-now (Life life) cell x y state e = e ∙ ap (λ (f : ℤ → ℤ → ℕ). f x y) (sym (after-none life cell))
state-now (Named name) cell x y state e = (refl, e)

pub now-state : (rule : Rule) (cell : ℤ → ℤ → ℕ) (x y : ℤ) (state : ℕ) → IsStateAfter 0 rule cell x y state → state ≡ cell x y
now-state (Life life) cell x y state e = e ∙ ap (λ (f : ℤ → ℤ → ℕ). f x y) (after-none life cell)
now-state (Named name) cell x y state h = h.1

-- a cell has one state n generations later
pub one-state-later : (n : ℕ) (rule : Rule) (cell : ℤ → ℤ → ℕ) (x y : ℤ) (a b : ℕ) → IsStateAfter n rule cell x y a → IsStateAfter n rule cell x y b → a ≡ b
one-state-later n (Life life) cell x y a b h k = h ∙ sym k
one-state-later n (Named name) cell x y a b h k = h.1 ∙ sym k.1

pub life-state : (n : ℕ) (rule : Rule) (life : OuterTotalistic) (cell : ℤ → ℤ → ℕ) (x y : ℤ) (state : ℕ) → rule ≡ Life life
    → state ≡ after life n cell x y → IsStateAfter n rule cell x y state
life-state n rule life cell x y state is e = subst (λ (r : Rule). IsStateAfter n r cell x y state) (sym is) e

-- n generations after m are m + n
pub states-add : (m n : ℕ) (rule : Rule) (now next : ℤ → ℤ → ℕ) → ((x y : ℤ) → IsStateAfter m rule now x y (next x y)) → (x y : ℤ) (state : ℕ)
    → IsStateAfter n rule next x y state → IsStateAfter (m + n) rule now x y state
states-add m n (Life life) now next first x y state second =
    let same : next ≡ after life m now = (λ i z w. first z w i) in
    let e : n + m ≡ m + n = omega arith in
    second ∙ ap (λ (f : ℤ → ℤ → ℕ). after life n f x y) same ∙ ap (λ (f : ℤ → ℤ → ℕ). f x y) (sym (after-adds life n m now))
    ∙ ap (λ k. after life k now x y) e
states-add m n (Named name) now next first x y state second =
    let a = (first x y).0 in let b = second.0 in (omega (arith, a, b), second.1 ∙ (first x y).1)

-- ---- refusals

-- nothing leaves the plane before the first generation
none-leaves : (life : OuterTotalistic) (cell : ℤ → ℤ → ℕ) → ¬ (LeavesWithin life 0 cell)
none-leaves life cell h = let a = h.some in let b = h.within in omega (arith, a, b)

-- no generation further no pattern is refused
pub none-refused : (u : Universe) → u.generation < 2 ^ 64 → LaterRefusal 0 u None
none-refused u small = by u.rule
  where
    by : (rule : Rule) → LaterRuleRefusal 0 rule u None
    by (Named name) = inl (refl, refl)
    by (Life life) = inr (λ l. omega (arith, l, small), inr (none-leaves life u.cell, refl))

-- a rule that is no B/S rule is refused without a table
pub name-refused : (n : ℕ) (u : Universe) (rule : Rule) (refusal : Option Fault) → n ≢ 0 → rule ≡ u.rule → ((life : OuterTotalistic) → rule ≡ Life life → ⊥)
    → refusal ≡ Some (fault_of kinds.NeedsTable) → LaterRefusal n u refusal
name-refused n u rule refusal some is other e = subst (λ (r : Rule). LaterRuleRefusal n r u refusal) is (by rule other)
  where
    by : (r : Rule) → ((life : OuterTotalistic) → r ≡ Life life → ⊥) → LaterRuleRefusal n r u refusal
    by (Named name) h = inr (some, e)
    by (Life life) h = absurd (h life refl)

module _ (n : ℕ) (u : Universe) (life : OuterTotalistic) (is : u.rule ≡ Life life) where
  by-life : (refusal : Option Fault) → LaterRuleRefusal n (Life life) u refusal → LaterRefusal n u refusal
  by-life refusal h = subst (λ (r : Rule). LaterRuleRefusal n r u refusal) (sym is) h

  pub generation-refused : 2 ^ 64 ≤ u.generation + n → LaterRefusal n u (Some (fault_of kinds.GenerationTooLarge))
  generation-refused large = by-life _ (inl (large, refl))

  pub leaving-refused : u.generation + n < 2 ^ 64 → LeavesWithin life n u.cell → LaterRefusal n u (Some (fault_of kinds.OutOfPlane))
  leaving-refused small leaves = by-life _ (inr (λ l. omega (arith, l, small), inl (leaves, refl)))

  pub not-refused : u.generation + n < 2 ^ 64 → ¬ (LeavesWithin life n u.cell) → LaterRefusal n u None
  not-refused small stays = by-life _ (inr (λ l. omega (arith, l, small), inr (stays, refl)))

-- Why the leaps to a later generation are refused. Only this lemma speaks of the refusals of `later`.
pub course-refused : (life : OuterTotalistic) (n : ℕ) (cell : ℤ → ℤ → ℕ) (stored : List Tree) (most : ℕ) (fault : Fault)
    → IsCourseFault life n cell stored most fault
    → IsShortageFault stored most fault ⊎ ((fault ≡ fault_of kinds.OutOfPlane) × LeavesWithin life n cell)
course-refused life n cell stored most fault h = h

-- ---- one generation

pub of-plane : (x y : ℤ) → IsOfPlane MAX_LEVEL x y → IsPlaneCoordinate x × IsPlaneCoordinate y
unfolding corner
of-plane x y h =
    let w = h.0.0 in
    let e = h.0.1 in
    let n = h.1.0 in
    let s = h.1.1 in (
      record { from = omega (arith, ints, w); to = omega (arith, ints, e) },
      record { from = omega (arith, ints, n); to = omega (arith, ints, s) },
    )

pub on-plane : (x y : ℤ) → IsPlaneCoordinate x × IsPlaneCoordinate y → IsOfPlane MAX_LEVEL x y
unfolding corner
on-plane x y h =
    let w = h.0.from in
    let e = h.0.to in
    let n = h.1.from in
    let s = h.1.to in
    ((omega (arith, ints, w), omega (arith, ints, e)), (omega (arith, ints, n), omega (arith, ints, s)))

-- what leaves the plane within one generation leaves it by the rule
one-leaves : (life : OuterTotalistic) (u : Universe) → LeavesWithin life 1 u.cell → LeavesByRule MAX_LEVEL life u
one-leaves life u h =
    let some = h.some in
    let within = h.within in
    let e : h.generation ≡ 1 = omega (arith, some, within) in
    let to-plane = plane h in (
      h.x,
      h.y,
      to-plane,
      λ zero. h.nonzero (ap (λ k. after life k u.cell h.x h.y) e ∙ ap (λ (f : ℤ → ℤ → ℕ). f h.x h.y) (after-one life u.cell) ∙ zero),
    )
  where
    plane : (h : LeavesWithin life 1 u.cell) → ¬ (IsOfPlane MAX_LEVEL h.x h.y)
    plane h on = h.outside (of-plane h.x h.y on)

-- a pattern whose step isn't refused may be taken one generation further
pub step-not-refused : (u : Universe) (life : OuterTotalistic) → u.rule ≡ Life life → u.generation < 2 ^ 64 → LifeRefusal MAX_LEVEL u None
    → LaterRefusal 1 u None
step-not-refused u life is small h = by (subst (λ (r : Rule). RuleRefusal MAX_LEVEL r u None) is h)
  where
    by : RuleRefusal MAX_LEVEL (Life life) u None → LaterRefusal 1 u None
    by (inl a) = let e : None ≡ Some (fault_of kinds.GenerationTooLarge) = a.1 in absurd (cc)
    by (inr (a, inl b)) = let e : None ≡ Some (fault_of kinds.TooManyCells) = b.1 in absurd (cc)
    by (inr (a, inr (b, inl c))) = let e : None ≡ Some (fault_of kinds.OutOfPlane) = c.1 in absurd (cc)
    by (inr (a, inr (b, inr c))) = not-refused 1 u life is (below u.generation small a) (λ leaves. c.0 (one-leaves life u leaves))
      where
        below : (g : ℕ) → g < 2 ^ 64 → g ≢ 2 ^ 64 - 1 → g + 1 < 2 ^ 64
        below g l n = grind (arith, l, n)
