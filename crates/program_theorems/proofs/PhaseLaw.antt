-- The phases of a pattern in the words of the claims are those of the layer below.
use Rattle.std.proofs.Common.{◌≡◌, ◌⊎◌, inl, inr, ℕ, List, refl, ap, ◌∙◌, sym, subst, ℤ}
use Rattle.life_base.specs.Rules.{IsRule, IsLifeRule}
use Rattle.life_base.specs.Sets.{OuterTotalistic}
use Rattle.life_base.specs.declared.rule.Rule.{Rule as LayerRule}
use Rattle.life_base.specs.declared.rule.Rule.TheVariants.{Life, Named}
use Rattle.life_pattern.specs.Universe.{Universe}
use Rattle.life_phases.specs.declared.period.Period.{Period}
use Rattle.life_phase_forms.specs.Phases.{AreOfOneCourse, HasNoPhases, HasPhases, LeavesUnderway, begun, in_one_phase, in_two_phases, phase}
use Rattle.claims.specs.Pattern.{Pattern}
use Rattle.claims.specs.Rules.{Rule, counting, named}
use Rattle.claims.proofs.RuleLaw.{rule_in}
use Rattle.generation_theorems.specs.ManyGenerations.{claimed_life_after}
use Rattle.generation_theorems.proofs.FurtherLaw.{life-after_is}
use Rattle.program_theorems.specs.Forms.{AreOfOneClaimedCourse, IsClaimedTurnedShift, in_one_claimed_phase, in_two_claimed_phases}
use Rattle.program_theorems.specs.Periods.{HasClaimedPeriod, IsClaimedLeastPeriod, LeavesFromClaimedMiddle}
use Rattle.program_theorems.specs.Phases.{HasClaimedPhases, HasNoClaimedPhases, LacksClaimedPhases, claimed_begun, claimed_phase}
use Rattle.program_theorems.proofs.PatternLaw.{Says, turned_from, turned_to}
use Rattle.program_theorems.proofs.PeriodLaw.{births, has-from, least-from, least-to, middle-from, middle-to, neighbours, survivals}

-- the rule is a B/S rule, and this holds of its parts
abbrev OfCounting : (ℕ → List ℕ → List ℕ → Type 0) → Rule → Type 0
OfCounting Holds (counting neighbours births survivals) = Holds neighbours births survivals
OfCounting Holds (named name) = ⊥

module _ (p : Pattern) (u : Universe) (says : Says p u) (valid : IsRule u.rule) where
  cells-are : p.cell ≡ u.cell
  cells-are = λ i x y. says.cells x y i

  -- what holds of the parts of the pattern's rule holds of those of the layer's
  of-layer : (Holds : ℕ → List ℕ → List ℕ → Type 0) (m : ℕ) (b s : List ℕ) → p.rule ≡ counting m b s → Holds m b s → OfCounting Holds (rule_in u.rule)
  of-layer Holds m b s e h = subst (OfCounting Holds) (sym e ∙ says.rule) h

  pub begun-says : Says (claimed_begun p) (begun u)
  begun-says = record { rule = says.rule; generation = refl; cells = says.cells }

  module _ (life : OuterTotalistic) (under : u.rule ≡ Life life) where
    pub life-valid : IsLifeRule life
    life-valid = subst IsRule under valid

    under-is : p.rule ≡ counting (neighbours life life-valid) (births life life-valid) (survivals life life-valid)
    under-is = says.rule ∙ ap rule_in under

    abbrev pub phase_of : ℕ → Pattern
    phase_of n = claimed_phase (neighbours life life-valid) (births life life-valid) (survivals life life-valid) n p

    pub phase-says : (n : ℕ) → Says (phase_of n) (phase life n u)
    phase-says n = record {
      rule = says.rule;
      generation = refl;
      cells = λ x y.
          ap (λ (f : ℤ → ℤ → ℕ). claimed_life_after (neighbours life life-valid) (births life life-valid) (survivals life life-valid) n f x y) cells-are
          ∙ ap (λ (f : ℤ → ℤ → ℕ). f x y) (life-after_is life life-valid n u.cell);
    }

  -- ---- the phases

  module _ (most : ℕ) where
    pub phases-to : (life : OuterTotalistic) (period : Period) (h : HasPhases most u life period)
        → HasClaimedPhases most p (neighbours life (life-valid life h.under)) (births life (life-valid life h.under)) (survivals life (life-valid life h.under))
        period
    phases-to life period h =
        let v = life-valid life h.under in
        record {
          under = under-is life h.under;
          within = h.within;
          least = subst (λ (c : ℤ → ℤ → ℕ). IsClaimedLeastPeriod (neighbours life v) (births life v) (survivals life v) c period) (sym cells-are)
              (least-to life v u.cell period h.least);
        }

    pub no-phases_to : HasNoPhases most u → HasNoClaimedPhases most p
    no-phases_to none m b s e n columns rows within h =
        by u.rule refl (of-layer (λ m b s. HasClaimedPeriod m b s p.cell n columns rows) m b s e h)
      where
        by : (rule : LayerRule) → u.rule ≡ rule → OfCounting (λ m b s. HasClaimedPeriod m b s p.cell n columns rows) (rule_in rule) → ⊥
        by (Life life) r k =
            let v = life-valid life r in
            none life r n columns rows within
            (has-from life v u.cell n columns rows
            (subst (λ (c : ℤ → ℤ → ℕ). HasClaimedPeriod (neighbours life v) (births life v) (survivals life v) c n columns rows) cells-are k))
        by (Named name) r k = k

    pub lacks-to : LeavesUnderway most u → LacksClaimedPhases most p
    lacks-to h =
        let v = life-valid h.rule h.under in
        record {
          neighbours = neighbours h.rule v;
          births = births h.rule v;
          survivals = survivals h.rule v;
          under = under-is h.rule h.under;
          leaves = subst (LeavesFromClaimedMiddle (neighbours h.rule v) (births h.rule v) (survivals h.rule v) most) (sym cells-are)
              (middle-to h.rule v most u.cell h.leaves);
        }

    pub lacks-from : LacksClaimedPhases most p → LeavesUnderway most u
    lacks-from h = by u.rule refl (of-layer (λ m b s. LeavesFromClaimedMiddle m b s most p.cell) h.neighbours h.births h.survivals h.under h.leaves)
      where
        by : (rule : LayerRule) → u.rule ≡ rule → OfCounting (λ m b s. LeavesFromClaimedMiddle m b s most p.cell) (rule_in rule) → LeavesUnderway most u
        by (Life life) r k =
            let v = life-valid life r in
            record {
              rule = life;
              under = r;
              leaves = middle-from life v most u.cell
                  (subst (LeavesFromClaimedMiddle (neighbours life v) (births life v) (survivals life v) most) cells-are k);
            }
        by (Named name) r k = absurd k

-- ---- two patterns

module _ (most : ℕ) (p q : Pattern) (u v : Universe) (one : IsRule u.rule) (two : IsRule v.rule) (a : Says p u) (b : Says q v) where
  pub course-to : AreOfOneCourse most u v → AreOfOneClaimedCourse most p q
  course-to (in_one_phase s) =
      in_one_claimed_phase (turned_to (claimed_begun p) (claimed_begun q) (begun u) (begun v) (begun-says p u a one) (begun-says q v b two) s)
  course-to (in_two_phases life period h n s) =
      in_two_claimed_phases _ _ _ period (phases-to p u a one most life period h) n
      (turned_to (phase_of p u a one life h.under n) (claimed_begun q) (phase life n u) (begun v) (phase-says p u a one life h.under n)
      (begun-says q v b two) s)

  -- the first pattern has this least period under a rule, and so many generations later a turn and a shift take it to the second
  abbrev Comes : Period → ℕ → ℕ → List ℕ → List ℕ → Type 0
  Comes period n m c d = IsClaimedLeastPeriod m c d p.cell period × IsClaimedTurnedShift (claimed_phase m c d n p) (claimed_begun q)

  pub course-from : AreOfOneClaimedCourse most p q → AreOfOneCourse most u v
  course-from (in_one_claimed_phase s) =
      in_one_phase (turned_from (claimed_begun p) (claimed_begun q) (begun u) (begun v) one two (begun-says p u a one) (begun-says q v b two) s)
  course-from (in_two_claimed_phases m c d period h n s) = by u.rule refl (of-layer p u a one (Comes period n) m c d h.under (h.least, s))
    where
      by : (rule : LayerRule) → u.rule ≡ rule → OfCounting (Comes period n) (rule_in rule) → AreOfOneCourse most u v
      by (Life life) r k =
          let valid = life-valid p u a one life r in
          in_two_phases life period
          (record {
            under = r;
            within = h.within;
            least = least-from life valid u.cell period
                (subst (λ (f : ℤ → ℤ → ℕ). IsClaimedLeastPeriod (neighbours life valid) (births life valid) (survivals life valid) f period)
                (cells-are p u a one) k.0);
          })
          n
          (turned_from (phase_of p u a one life r n) (claimed_begun q) (phase life n u) (begun v) one two (phase-says p u a one life r n)
          (begun-says q v b two) k.1)
      by (Named name) r k = absurd k

  -- one of the two leaves the plane before its period is found
  pub either-to : LeavesUnderway most u ⊎ LeavesUnderway most v → LacksClaimedPhases most p ⊎ LacksClaimedPhases most q
  either-to (inl h) = inl (lacks-to p u a one most h)
  either-to (inr h) = inr (lacks-to q v b two most h)

  pub either-from : LacksClaimedPhases most p ⊎ LacksClaimedPhases most q → LeavesUnderway most u ⊎ LeavesUnderway most v
  either-from (inl h) = inl (lacks-from p u a one most h)
  either-from (inr h) = inr (lacks-from q v b two most h)
