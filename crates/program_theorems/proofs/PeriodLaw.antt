-- The period of a file in the words of the claims is that of the layer below.
use Rattle.std.proofs.Common.{◌≡◌, ℕ, List, ◌++◌, refl, ap, ◌∙◌, sym, subst, inl, inr, filter, Option, Some, None, Result, Ok, ℤ, ◌+ℤ◌}
use Rattle.life_base.specs.Rules.{IsRule, IsLifeRule, has_digit, counts, most_neighbours}
use Rattle.life_base.specs.Sets.{OuterTotalistic}
use Rattle.life_base.specs.declared.fault.Fault.{Fault}
use Rattle.life_base.specs.declared.kind.Kind.TheVariants as kinds
use Rattle.life_base.specs.declared.rule.Rule.{Rule as LayerRule}
use Rattle.life_base.specs.declared.rule.Rule.TheVariants.{Life, Named}
use Rattle.life_pattern.specs.Files.{Reads}
use Rattle.life_pattern.specs.Laws.{FilesAreOnPlane, FilesAreUnique}
use Rattle.life_writer.specs.Laws.{TextsAreFiles}
use Rattle.life_writer.specs.Texts.{IsCanonical}
use Rattle.life_pattern.specs.Universe.{Universe}
use Rattle.life_phases.specs.Middle.{IsInMiddle, moved_by}
use Rattle.life_phases.specs.Periods.{HasPeriod, IsLeastPeriod, IsPeriodUpTo, LeavesFirst, LeavesFromMiddle}
use Rattle.life_phases.specs.declared.period.Period.{Period}
use Rattle.life_periods.specs.Line.{period_line}
use Rattle.life_periods.specs.OfFile.{IsPeriodUnder, IsShownWithPeriod, PeriodRefusal, PeriodRuleRefusal}
use Rattle.claims.specs.Counting.{claimed_node_lines}
use Rattle.claims.specs.Files.{pattern_of, claimed_fault_of}
use Rattle.claims.specs.Pattern.{Pattern}
use Rattle.claims.specs.Rules.{Rule, counting, named}
use Rattle.claims.specs.Shown.{IsClaimedShown}
use Rattle.claims.proofs.RuleLaw.{rule_in}
use Rattle.theorems.proofs.FileLaw.{files_agree}
use Rattle.theorems.proofs.ShownLaw.{shown_is}
use Rattle.theorems.proofs.StepLaw.{none_some, some_of}
use Rattle.generation_theorems.proofs.FurtherLaw.{life-after_is, leaves-to, leaves-from}
use Rattle.program_theorems.specs.Periods.{HasClaimedPeriod, IsClaimedLeastPeriod, IsClaimedPeriod, LeavesClaimedPlaneFirst, IsInClaimedMiddle, LeavesFromClaimedMiddle, IsPeriodReason, no_table_for_period, leaves_from_middle, claimed_period_line, IsClaimedShownWithPeriod, HasNoClaimedPeriod}

-- ---- periods

module _ (life : OuterTotalistic) (valid : IsLifeRule life) where
  abbrev pub births : List ℕ
  births = filter (has_digit life.sets.births) counts

  abbrev pub survivals : List ℕ
  survivals = filter (has_digit life.sets.survivals) counts

  abbrev pub neighbours : ℕ
  neighbours = most_neighbours life.near

  has-to : (d : ℤ → ℤ → ℕ) (n : ℕ) (columns rows : ℤ) → HasPeriod life d n columns rows → HasClaimedPeriod neighbours births survivals d n columns rows
  has-to d n columns rows h = record {
    some = h.some;
    moved = λ x y. ap (λ (f : ℤ → ℤ → ℕ). f (x +ℤ columns) (y +ℤ rows)) (life-after_is life valid n d) ∙ h.moved.cells x y;
  }

  pub has-from : (d : ℤ → ℤ → ℕ) (n : ℕ) (columns rows : ℤ) → HasClaimedPeriod neighbours births survivals d n columns rows → HasPeriod life d n columns rows
  has-from d n columns rows h = record {
    some = h.some;
    moved = record { cells = λ x y. ap (λ (f : ℤ → ℤ → ℕ). f (x +ℤ columns) (y +ℤ rows)) (sym (life-after_is life valid n d)) ∙ h.moved x y };
  }

  pub least-to : (d : ℤ → ℤ → ℕ) (period : Period) → IsLeastPeriod life d period → IsClaimedLeastPeriod neighbours births survivals d period
  least-to d period h = record {
    is = has-to d period.generations period.shift.columns period.shift.rows h.is;
    least = λ n columns rows p. h.least n columns rows (has-from d n columns rows p);
    still = h.still;
  }

  pub least-from : (d : ℤ → ℤ → ℕ) (period : Period) → IsClaimedLeastPeriod neighbours births survivals d period → IsLeastPeriod life d period
  least-from d period h = record {
    is = has-from d period.generations period.shift.columns period.shift.rows h.is;
    least = λ n columns rows p. h.least n columns rows (has-to d n columns rows p);
    still = h.still;
  }

  period-to : (most : ℕ) (d : ℤ → ℤ → ℕ) (answer : Option Period) → IsPeriodUpTo life d most answer
      → IsClaimedPeriod most (rule_in (Life life)) d answer
  period-to most d None h = λ n columns rows within p. h n columns rows within (has-from d n columns rows p)
  period-to most d (Some period) h = (h.0, least-to d period h.1)

  first-to : (most : ℕ) (d : ℤ → ℤ → ℕ) → LeavesFirst life most d → LeavesClaimedPlaneFirst neighbours births survivals most d
  first-to most d h = record {
    generation = h.generation;
    within = h.within;
    leaves = leaves-to life valid h.generation d d refl h.leaves;
    none = λ n columns rows before p. h.none n columns rows before (has-from d n columns rows p);
  }

  first-from : (most : ℕ) (d : ℤ → ℤ → ℕ) → LeavesClaimedPlaneFirst neighbours births survivals most d → LeavesFirst life most d
  first-from most d h = record {
    generation = h.generation;
    within = h.within;
    leaves = leaves-from life valid h.generation d d refl h.leaves;
    none = λ n columns rows before p. h.none n columns rows before (has-to d n columns rows p);
  }

  in-middle_to : (d : ℤ → ℤ → ℕ) → IsInMiddle d → IsInClaimedMiddle d
  in-middle_to d h = (
    h.box,
    record { at_left = h.at_left; at_right = h.at_right; at_top = h.at_top; at_bottom = h.at_bottom; inside = h.inside },
    (h.across.low_end, h.across.high_end),
    (h.down.low_end, h.down.high_end),
  )

  in-middle_from : (d : ℤ → ℤ → ℕ) → IsInClaimedMiddle d → IsInMiddle d
  in-middle_from d h = record {
    box = h.0;
    inside = h.1.inside;
    at_left = h.1.at_left;
    at_right = h.1.at_right;
    at_top = h.1.at_top;
    at_bottom = h.1.at_bottom;
    across = record { low_end = h.2.0; high_end = h.2.1 };
    down = record { low_end = h.3.0; high_end = h.3.1 };
  }

  pub middle-to : (most : ℕ) (d : ℤ → ℤ → ℕ) → LeavesFromMiddle life most d → LeavesFromClaimedMiddle neighbours births survivals most d
  middle-to most d h = (
    h.columns,
    h.rows,
    in-middle_to (moved_by h.columns h.rows d) h.middle,
    first-to most (moved_by h.columns h.rows d) h.leaves,
  )

  pub middle-from : (most : ℕ) (d : ℤ → ℤ → ℕ) → LeavesFromClaimedMiddle neighbours births survivals most d → LeavesFromMiddle life most d
  middle-from most d h = record {
    columns = h.0;
    rows = h.1;
    middle = in-middle_from (moved_by h.0 h.1 d) h.2;
    leaves = first-from most (moved_by h.0 h.1 d) h.3;
  }

-- ---- reasons

module _ (most : ℕ) (u : Universe) (p : Pattern) (rule_is : p.rule ≡ rule_in u.rule) (cells : p.cell ≡ u.cell) (valid : IsRule u.rule) where
  period-reason_is : (fault : Fault) → PeriodRefusal most u (Some fault) → IsPeriodReason most p fault
  period-reason_is fault h = by u.rule refl h
    where
      is : (reason : Fault) → Some fault ≡ Some reason → IsPeriodReason most p reason → IsPeriodReason most p fault
      is reason e r = subst (IsPeriodReason most p) (sym (some_of fault reason e)) r

      by : (rule : LayerRule) → u.rule ≡ rule → PeriodRuleRefusal most rule u (Some fault) → IsPeriodReason most p fault
      by (Named name) r k = is (claimed_fault_of kinds.NeedsTable) k (no_table_for_period name (rule_is ∙ ap rule_in r))
      by (Life life) r (inr k) = absurd (none_some fault (sym k.1))
      by (Life life) r (inl k) =
          is (claimed_fault_of kinds.OutOfPlane) k.1
          (leaves_from_middle _ _ _ (rule_is ∙ ap rule_in r)
          (subst (LeavesFromClaimedMiddle (neighbours life v) (births life v) (survivals life v) most) (sym cells) (middle-to life v most u.cell k.0)))
        where
          v : IsLifeRule life
          v = subst IsRule r valid

  -- no reason holds against a pattern that isn't refused
  no-period_reason : PeriodRefusal most u None → (fault : Fault) → IsPeriodReason most p fault → ⊥
  no-period_reason h fault reason = by u.rule refl h reason
    where
      by : (rule : LayerRule) → u.rule ≡ rule → PeriodRuleRefusal most rule u None → {f : Fault} → IsPeriodReason most p f → ⊥
      by (Named name) r k (no_table_for_period other e) = none_some _ k
      by (Life life) r k (no_table_for_period other e) = let d : rule_in (Life life) ≡ named other = sym (rule_is ∙ ap rule_in r) ∙ e in absurd (cc)
      by (Named name) r k (leaves_from_middle m b s e leaves) = let d : named name ≡ counting m b s = sym (rule_is ∙ ap rule_in r) ∙ e in absurd (cc)
      by (Life life) r (inl k) (leaves_from_middle m b s e leaves) = none_some _ k.1
      by (Life life) r (inr k) (leaves_from_middle m b s e leaves) =
          k.0 (middle-from life v most u.cell
          (subst (LeavesFromClaimedMiddle (neighbours life v) (births life v) (survivals life v) most) cells
          (same-rule m b s (neighbours life v) (births life v) (survivals life v) (sym e ∙ rule_is ∙ ap rule_in r) leaves)))
        where
          v : IsLifeRule life
          v = subst IsRule r valid

          same-rule : (m : ℕ) (b s : List ℕ) (j : ℕ) (c d : List ℕ) → counting m b s ≡ counting j c d → LeavesFromClaimedMiddle m b s most p.cell
              → LeavesFromClaimedMiddle j c d most p.cell
          same-rule m b s j c d e h =
              let one : m ≡ j = cc in
              let two : b ≡ c = cc in
              let three : s ≡ d = cc in
              subst (λ k. LeavesFromClaimedMiddle k c d most p.cell) one
              (subst (λ k. LeavesFromClaimedMiddle m k d most p.cell) two (subst (λ k. LeavesFromClaimedMiddle m b k most p.cell) three h))

  period-is : (answer : Option Period) → IsPeriodUnder most u.rule u.cell answer → IsClaimedPeriod most p.rule p.cell answer
  period-is answer h =
      subst (λ (q : Rule). IsClaimedPeriod most q p.cell answer) (sym rule_is)
      (subst (λ (c : ℤ → ℤ → ℕ). IsClaimedPeriod most (rule_in u.rule) c answer) (sym cells) (by u.rule refl h))
    where
      by : (rule : LayerRule) → u.rule ≡ rule → IsPeriodUnder most rule u.cell answer → IsClaimedPeriod most (rule_in rule) u.cell answer
      by (Life life) r k = period-to life (subst IsRule r valid) most u.cell answer k
      by (Named name) r k = absurd k

-- ---- texts

line-is : (most : ℕ) (answer : Option Period) → claimed_period_line most answer ≡ period_line most answer
line-is most None = refl
line-is most (Some period) = refl

one_pattern : (r : Result Pattern Fault) (a b : Pattern) → r ≡ Ok a → r ≡ Ok b → a ≡ b
one_pattern r a b e f = cc

-- the pattern of a file, and what is reported of it and of its period
pub shown-with_period : FilesAreOnPlane 62 → FilesAreUnique 62 → TextsAreFiles 62 → (most : ℕ) (bytes lines text : List ℕ)
    → IsShownWithPeriod most bytes lines → IsCanonical 62 bytes text
    → (pattern : Pattern) × (pattern_of bytes ≡ Ok pattern) × IsClaimedShownWithPeriod most pattern (claimed_node_lines text) lines
shown-with_period on_plane unique files most bytes lines text h c =
    let u = h.period.0 in
    let reads = h.period.1 in
    let p = files_agree bytes u reads in
    let s = shown_is on_plane unique files bytes h.lines text h.shown c in
    let valid : IsRule u.rule = (on_plane bytes u reads).rule in
    let cells : p.pattern.cell ≡ u.cell = λ i x y. p.cells x y i in
    let same : s.0 ≡ p.pattern = one_pattern (pattern_of bytes) s.0 p.pattern s.1 p.is in (
      p.pattern,
      p.is,
      record {
        lines = h.lines;
        shown = subst (λ (q : Pattern). IsClaimedShown q (claimed_node_lines text) h.lines) same s.2;
        answer = h.answer;
        period = period-is most u p.pattern p.rule cells valid h.answer h.period.3;
        no_reason = λ fault. no-period_reason most u p.pattern p.rule cells valid h.period.2 fault;
        is = h.is ∙ ap (λ (l : List ℕ). h.lines ++ l) (sym (line-is most h.answer));
      },
    )

-- why the period of what a file says isn't found
pub period-reason_of : FilesAreOnPlane 62 → (most : ℕ) (bytes : List ℕ) (u : Universe) (fault : Fault) → Reads 62 bytes u
    → PeriodRefusal most u (Some fault) → HasNoClaimedPeriod most bytes fault
period-reason_of on_plane most bytes u fault reads why =
    let p = files_agree bytes u reads in
    let cells : p.pattern.cell ≡ u.cell = λ i x y. p.cells x y i in
    (p.pattern, p.is, period-reason_is most u p.pattern p.rule cells (on_plane bytes u reads).rule fault why)
