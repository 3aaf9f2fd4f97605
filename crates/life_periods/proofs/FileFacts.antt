-- The period of a pattern that was read, and of its file.
use Rattle.std.proofs.Common.{◌≡◌, inl, inr, ℕ, ◌^◌, ℤ, pos, neg_ℤ, List, Option, Some, None, refl, sym, ◌∙◌, ap, subst, arith}
use Rattle.std.proofs.lemmas.Int.{ints, by_lt_z}
use Rattle.life_base.specs.Refusal.{fault_of}
use Rattle.life_base.specs.Sets.{OuterTotalistic}
use Rattle.life_base.specs.Text.{lines_of}
use Rattle.life_base.specs.Tree.{tree_cell}
use Rattle.life_base.specs.declared.cell.TheConstants.{MAX_LEVEL}
use Rattle.life_base.specs.declared.fault.Fault.{Fault}
use Rattle.life_base.specs.declared.kind.Kind.TheVariants as kinds
use Rattle.life_base.specs.declared.rule.Rule.{Rule}
use Rattle.life_base.specs.declared.rule.Rule.TheVariants.{Life, Named}
use Rattle.life_quad.specs.Store.{Nodes}
use Rattle.life_pattern.specs.Laws.{FilesAreOnPlane, FilesAreUnique, PatternsFit}
use Rattle.life_pattern.specs.Store.{IsRead, content}
use Rattle.life_pattern.specs.Universe.{Universe, IsBlankOutside, IsSame, IsWithin, corner, square_universe}
use Rattle.life_pattern.specs.declared.pattern.Pattern.{Pattern}
use Rattle.life_leap.specs.Edge.{IsPlaneCoordinate}
use Rattle.life_phases.specs.Laws.{IsWithinPlane}
use Rattle.life_phases.specs.Periods.{IsPeriodFault, IsPeriodUpTo, LeavesFromMiddle}
use Rattle.life_phases.specs.declared.period.Period.{Period}
use Rattle.life_phases.proofs.UniqueLemmas.{periods-unique}
use Rattle.life_periods.specs.OfFile.{FilesHaveOnePeriod, IsPeriodOfFile, IsPeriodUnder, PeriodRefusal, PeriodRuleRefusal, RefusesPeriod, RefusesPeriodOf, RefusesPeriodOfFile}

module _ (fit : PatternsFit MAX_LEVEL) (most : ℕ) (store : Nodes) (pattern : Pattern) (bytes : List ℕ) (r : IsRead MAX_LEVEL bytes store pattern) where
  same : IsSame r.universe (square_universe pattern.rule pattern.generation (content store pattern.root))
  same = (fit bytes store pattern r).1

  cells-are : r.universe.cell ≡ tree_cell (content store pattern.root)
  cells-are i x y = same.cells x y i

  -- a rule that is a name
  pub name-refused : ((life : OuterTotalistic) → pattern.rule ≡ Life life → ⊥) → RefusesPeriodOf most bytes (fault_of kinds.NeedsTable)
  name-refused other = (r.universe, r.reads, by r.universe.rule (λ life e. other life (sym same.rule ∙ e)))
    where
      by : (q : Rule) → ((life : OuterTotalistic) → q ≡ Life life → ⊥) → PeriodRuleRefusal most q r.universe (Some (fault_of kinds.NeedsTable))
      by (Named name) h = refl
      by (Life life) h = absurd (h life refl)

  module _ (life : OuterTotalistic) (is : pattern.rule ≡ Life life) where
    rule-is : r.universe.rule ≡ Life life
    rule-is = same.rule ∙ is

    by-life : (refusal : Option Fault) → PeriodRuleRefusal most (Life life) r.universe refusal → PeriodRefusal most r.universe refusal
    by-life refusal h = subst (λ (q : Rule). PeriodRuleRefusal most q r.universe refusal) (sym rule-is) h

    pub period-read : (answer : Option Period) → IsPeriodUpTo life (tree_cell (content store pattern.root)) most answer
        → ¬ (LeavesFromMiddle life most (tree_cell (content store pattern.root))) → IsPeriodOfFile most bytes answer
    period-read answer h stays = (
      r.universe,
      r.reads,
      by-life None (inr (λ leaves. stays (subst (LeavesFromMiddle life most) cells-are leaves), refl)),
      subst (λ (q : Rule). IsPeriodUnder most q r.universe.cell answer) (sym rule-is)
          (subst (λ (f : ℤ → ℤ → ℕ). IsPeriodUpTo life f most answer) (sym cells-are) h),
    )

    pub leaving-read : (fault : Fault) → fault ≡ fault_of kinds.OutOfPlane → LeavesFromMiddle life most (tree_cell (content store pattern.root))
        → RefusesPeriodOf most bytes fault
    leaving-read fault e leaves = (r.universe, r.reads, by-life (Some fault) (inl (subst (LeavesFromMiddle life most) (sym cells-are) leaves, ap Some e)))

-- the refusals of the square are those of the pattern
pub pattern-refused : PatternsFit MAX_LEVEL → (most : ℕ) (store : Nodes) (pattern : Pattern) (life : OuterTotalistic) → pattern.rule ≡ Life life
    → (fault : Fault) → IsPeriodFault life most (tree_cell (content store pattern.root)) fault → RefusesPeriod most store pattern fault
pattern-refused fit most store pattern life is fault (inl memory) = inl (inl memory)
pattern-refused fit most store pattern life is fault (inr (inl full)) = inl (inr full)
pattern-refused fit most store pattern life is fault (inr (inr h)) = inr (λ bytes r. leaving-read fit most store pattern bytes r life is fault h.0 h.1)

-- those of the pattern are those of its file
pub file-refused : (most : ℕ) (bytes : List ℕ) (store : Nodes) (pattern : Pattern) → IsRead MAX_LEVEL bytes store pattern → (fault : Fault)
    → RefusesPeriod most store pattern fault → RefusesPeriodOfFile most bytes fault
file-refused most bytes store pattern read fault (inl want) = inr (inl want)
file-refused most bytes store pattern read fault (inr each) = inr (inr (each bytes read))

-- ---- one answer

on-side : (z : ℤ) → ((IsWithin MAX_LEVEL z → ⊥) → ⊥) → IsPlaneCoordinate z
unfolding corner
on-side z h =
    record {
      from = by_lt_z z (neg_ℤ (pos (2 ^ 61))) (λ l. absurd (h (λ w. let a = w.0 in omega (arith, ints, a, l)))) (λ g. g);
      to = by_lt_z z (pos (2 ^ 61)) (λ l. l) (λ g. absurd (h (λ w. let a = w.1 in omega (arith, ints, a, g))));
    }

within-plane : (cell : ℤ → ℤ → ℕ) → IsBlankOutside MAX_LEVEL cell → IsWithinPlane cell
within-plane cell outside x y some = (
  on-side x (λ not. some (outside x y (λ h. not h.0))),
  on-side y (λ not. some (outside x y (λ h. not h.1))),
)

one-answer : (most : ℕ) (rule : Rule) (cell : ℤ → ℤ → ℕ) → IsWithinPlane cell → (a b : Option Period) → IsPeriodUnder most rule cell a
    → IsPeriodUnder most rule cell b → a ≡ b
one-answer most (Named name) cell plane a b h k = absurd h
one-answer most (Life life) cell plane None None h k = refl
one-answer most (Life life) cell plane None (Some q) h k = absurd (h _ _ _ k.0 k.1.is)
one-answer most (Life life) cell plane (Some p) None h k = absurd (k _ _ _ h.0 h.1.is)
one-answer most (Life life) cell plane (Some p) (Some q) h k = ap Some (periods-unique life cell p q plane h.1 k.1)

pub one-period : FilesAreOnPlane MAX_LEVEL → FilesAreUnique MAX_LEVEL → FilesHaveOnePeriod
one-period plane unique most bytes a b h k =
    let u = h.0 in
    let same : u ≡ k.0 = unique (lines_of bytes) u k.0 h.1 k.1 in
    let second : IsPeriodUnder most u.rule u.cell b = subst (λ (v : Universe). IsPeriodUnder most v.rule v.cell b) (sym same) k.3 in
    one-answer most u.rule u.cell (within-plane u.cell (plane bytes u h.1).outside) a b h.3 second
