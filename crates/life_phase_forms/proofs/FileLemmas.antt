-- The text of a pattern that was read, and of its file.
use Rattle.std.proofs.Common.{◌≡◌, inl, inr, ℕ, ◌≤◌, List, sym, ◌∙◌, ap, subst}
use Rattle.life_base.specs.Refusal.{fault_of}
use Rattle.life_base.specs.Sets.{OuterTotalistic}
use Rattle.life_base.specs.Tree.{Tree, tree_cell}
use Rattle.life_base.specs.declared.cell.TheConstants.{MAX_LEVEL}
use Rattle.life_base.specs.declared.fault.Fault.{Fault}
use Rattle.life_base.specs.declared.kind.Kind.TheVariants as kinds
use Rattle.life_base.specs.declared.rule.Rule.{Rule}
use Rattle.life_base.specs.declared.rule.Rule.TheVariants.{Life}
use Rattle.life_quad.specs.Store.{Nodes, content}
use Rattle.life_pattern.specs.Laws.{PatternsFit}
use Rattle.life_pattern.specs.Store.{IsRead, IsTrimmed, universe_in}
use Rattle.life_pattern.specs.Universe.{IsSame, square_universe}
use Rattle.life_pattern.specs.declared.pattern.Pattern.{Pattern}
use Rattle.life_forms.specs.Images.{IsTurnedText}
use Rattle.life_phases.specs.Periods.{HasNoPeriodUpTo, IsLeastPeriod, IsPeriodFault, LeavesFromMiddle}
use Rattle.life_phases.specs.declared.period.Period.{Period}
use Rattle.life_phase_forms.specs.OfFile.{IsPhasesTextOf, RefusesPhases, RefusesPhasesOf}
use Rattle.life_phase_forms.specs.Phases.{HasNoPhases, HasPhases, IsLeastOfPhases, LeavesUnderway, begun, of_pattern, of_phases}
use Rattle.life_phase_forms.proofs.SameLemmas.{life-same}

-- a pattern fits its store in generation 0 too
pub trimmed-again : (store : Nodes) (pattern : Pattern) (rule : Rule) → rule ≡ pattern.rule → IsTrimmed store pattern
    → IsTrimmed store (record { rule = rule; generation = 0; root = pattern.root })
trimmed-again store pattern rule e is =
    let here : IsTrimmed store (record { rule = pattern.rule; generation = 0; root = pattern.root }) =
    record { known = is.known; level = is.level; trimmed = is.trimmed; states = is.states } in
    subst (λ q. IsTrimmed store (record { rule = q; generation = 0; root = pattern.root })) (sym e) here

pub text-under : (rule other : Rule) (t : Tree) (text : List ℕ) → rule ≡ other → IsTurnedText MAX_LEVEL (square_universe rule 0 t) text
    → IsTurnedText MAX_LEVEL (square_universe other 0 t) text
text-under rule other t text e h = subst (λ q. IsTurnedText MAX_LEVEL (square_universe q 0 t) text) e h

module _ (fit : PatternsFit MAX_LEVEL) (most : ℕ) (store : Nodes) (pattern : Pattern) (bytes : List ℕ) (r : IsRead MAX_LEVEL bytes store pattern) where
  same : IsSame r.universe (universe_in store pattern)
  same = (fit bytes store pattern r).1

  cells-are : r.universe.cell ≡ tree_cell (content store pattern.root)
  cells-are i x y = same.cells x y i

  begun-is : begun r.universe ≡ square_universe pattern.rule 0 (content store pattern.root)
  begun-is i = record { rule = same.rule i; generation = 0; cell = cells-are i }

  -- a pattern without phases
  text-alone : (text : List ℕ) → HasNoPhases most r.universe → ¬ (LeavesUnderway most r.universe)
      → IsTurnedText MAX_LEVEL (square_universe pattern.rule 0 (content store pattern.root)) text → IsPhasesTextOf most bytes text
  text-alone text none stays h = record {
    universe = r.universe;
    reads = r.reads;
    stays = stays;
    is = of_pattern none (subst (λ u. IsTurnedText MAX_LEVEL u text) (sym begun-is) h);
  }

  pub named-text : (text : List ℕ) → ((life : OuterTotalistic) → pattern.rule ≡ Life life → ⊥)
      → IsTurnedText MAX_LEVEL (square_universe pattern.rule 0 (content store pattern.root)) text → IsPhasesTextOf most bytes text
  named-text text other h =
      text-alone text (λ rule under. absurd (other rule (sym same.rule ∙ under))) (λ leaves. other leaves.rule (sym same.rule ∙ leaves.under)) h

  module _ (life : OuterTotalistic) (is : pattern.rule ≡ Life life) where
    rule-is : (rule : OuterTotalistic) → r.universe.rule ≡ Life rule → rule ≡ life
    rule-is rule e = life-same rule life (sym e ∙ same.rule ∙ is)

    stays-underway : ¬ (LeavesFromMiddle life most (tree_cell (content store pattern.root))) → ¬ (LeavesUnderway most r.universe)
    stays-underway stays h =
        stays (subst (LeavesFromMiddle life most) cells-are
        (subst (λ o. LeavesFromMiddle o most r.universe.cell) (rule-is h.rule h.under) h.leaves))

    pub aperiodic-text : (text : List ℕ) → HasNoPeriodUpTo life (tree_cell (content store pattern.root)) most
        → ¬ (LeavesFromMiddle life most (tree_cell (content store pattern.root)))
        → IsTurnedText MAX_LEVEL (square_universe pattern.rule 0 (content store pattern.root)) text → IsPhasesTextOf most bytes text
    aperiodic-text text none stays h =
        let never : HasNoPeriodUpTo life r.universe.cell most = subst (λ f. HasNoPeriodUpTo life f most) (sym cells-are) none in
        text-alone text (λ rule under. subst (λ o. HasNoPeriodUpTo o r.universe.cell most) (sym (rule-is rule under)) never) (stays-underway stays) h

    pub periodic-text : (text : List ℕ) (period : Period) → period.generations ≤ most
        → IsLeastPeriod life (tree_cell (content store pattern.root)) period → ¬ (LeavesFromMiddle life most (tree_cell (content store pattern.root)))
        → IsLeastOfPhases MAX_LEVEL life period.generations (square_universe (Life life) 0 (content store pattern.root)) text
        → IsPhasesTextOf most bytes text
    periodic-text text period within period_is stays h =
        let t = content store pattern.root in
        let path : begun r.universe ≡ square_universe (Life life) 0 t = begun-is ∙ ap (λ q. square_universe q 0 t) is in
        let least : IsLeastOfPhases MAX_LEVEL life period.generations (begun r.universe) text =
        subst (λ u. IsLeastOfPhases MAX_LEVEL life period.generations u text) (sym path) h in
        let has : HasPhases most r.universe life period = record {
          under = same.rule ∙ is;
          within = within;
          least = subst (λ f. IsLeastPeriod life f period) (sym cells-are) period_is;
        } in
        record {
          universe = r.universe;
          reads = r.reads;
          stays = stays-underway stays;
          is = of_phases life period has (record { number = least.number; below = least.below; is = least.is; least = least.least });
        }

    pub leaving-refused : (fault : Fault) → fault ≡ fault_of kinds.OutOfPlane
        → LeavesFromMiddle life most (tree_cell (content store pattern.root)) → RefusesPhasesOf most bytes fault
    leaving-refused fault e leaves = record {
      universe = r.universe;
      reads = r.reads;
      kind = e;
      leaves = record {
        rule = life;
        under = same.rule ∙ is;
        leaves = subst (LeavesFromMiddle life most) (sym cells-are) leaves;
      };
    }

-- why the period isn't found is why there is no text
pub period-refused : PatternsFit MAX_LEVEL → (most : ℕ) (store : Nodes) (pattern : Pattern) (life : OuterTotalistic) → pattern.rule ≡ Life life
    → (fault : Fault) → IsPeriodFault life most (tree_cell (content store pattern.root)) fault
    → RefusesPhases most store pattern fault
period-refused fit most store pattern life is fault (inl memory) = inl (inl memory)
period-refused fit most store pattern life is fault (inr (inl full)) = inl (inr full)
period-refused fit most store pattern life is fault (inr (inr h)) =
    inr (λ bytes r. leaving-refused fit most store pattern bytes r life is fault h.0 h.1)
