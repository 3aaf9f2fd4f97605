-- A step in the words of the claims is one in the layer below.
use Rattle.std.proofs.Common.{◌≡◌, ℕ, ◌+◌, List, refl, ap, ◌∙◌, sym, subst, ◌⊎◌, inl, inr, filter, Some, None, Err, ℤ}
use Rattle.life_base.specs.declared.cell.Cell.{Cell}
use Rattle.life_base.specs.Text.{lines_of}
use Rattle.life_base.specs.declared.fault.Fault.{Fault}
use Rattle.life_base.specs.declared.kind.Kind.TheVariants.{NeedsTable, GenerationTooLarge, TooManyCells, OutOfPlane}
use Rattle.life_quad.specs.Store.{Nodes}
use Rattle.life_base.specs.Rules.{IsRule, IsLifeRule, has_digit, counts, most_neighbours}
use Rattle.life_base.specs.declared.rule.Rule.{Rule as LayerRule}
use Rattle.life_base.specs.declared.rule.Rule.TheVariants.{Life, Named}
use Rattle.life_sweep.specs.Refused.{IfElse}
use Rattle.life_next.specs.Generation.{next_life as layer_next}
use Rattle.life_pattern.specs.Universe.{Universe}
use Rattle.life_pattern.specs.Files.{Reads, Refuses}
use Rattle.life_writer.specs.Listing.{canon_text}
use Rattle.life_pattern.specs.Store.{IsShortageOf}
use Rattle.life_pattern.specs.Laws.{FilesAreOnPlane, FilesAreUnique}
use Rattle.life_writer.specs.Texts.{AreCellsOf, IsCanonical}
use Rattle.life_step.specs.Stepped.{IsStepped as LayerStepped}
use Rattle.life_step.specs.Refusals.{RuleRefusal, LifeRefusal}
use Rattle.claims.specs.Files.{pattern_of, claimed_fault_of, IsShortage as IsUnmet}
use Rattle.claims.specs.Generation.{claimed_next_life, AreClaimedCells, IsClaimedStep, IsUnstepped, IsFirstReason, no_table, last_generation, many_cells, leaves_plane}
use Rattle.claims.proofs.RuleLaw.{rule_in}
use Rattle.theorems.proofs.FileLaw.{Agrees, files_agree}
use Rattle.theorems.proofs.CellsLaw.{same_cells as of_layer}
use Rattle.theorems.proofs.PlaneLaw.{not_of_plane, outside_is}
use Rattle.theorems.proofs.RefusalLaw.{refuses_agree, want_as}
use Rattle.theorems.proofs.TextLaw.{text_of_pattern}
use Rattle.theorems.proofs.NextLaw.{next_is}

-- a reason that is not reported does not hold
pub passes : {P A B : Type 0} → IfElse P A B → (A → ⊥) → (P → ⊥) × B
passes (inl h) never = absurd (never h.1)
passes (inr h) never = h

pub same_cells : (c d : ℤ → ℤ → ℕ) (cells : List Cell) → c ≡ d → AreClaimedCells c cells → AreCellsOf d cells
same_cells c d cells e h = subst (λ (f : ℤ → ℤ → ℕ). AreCellsOf f cells) e
    (record { in_order = h.in_order; true_cells = h.true_cells; all_cells = h.all_cells })

pub none_some : (f : Fault) → None ≡ Some f → ⊥
none_some f e = cc

pub stepped_is : FilesAreOnPlane 62 → (bytes text : List ℕ) → LayerStepped bytes text → IsClaimedStep bytes text
stepped_is on_plane bytes text h =
    let u = h.0 in
    let t = h.3 in
    let step = t.is in
    let life = step.life in
    let p = files_agree bytes u h.1 in
    let q = files_agree text t.universe t.reads in
    let valid : IsLifeRule life = subst IsRule step.rule (on_plane bytes u h.1).rule in
    let refusal : RuleRefusal 62 (Life life) u None = subst (λ (r : LayerRule). RuleRefusal 62 r u None) step.rule h.2 in
    let space = passes refusal (none_some _) in
    let few = passes space.1 (none_some _) in
    let inside = passes few.1 (none_some _) in
    let cells : p.pattern.cell ≡ u.cell = λ i x y. p.cells x y i in
    let n = most_neighbours life.near in
    let b = filter (has_digit life.sets.births) counts in
    let s = filter (has_digit life.sets.survivals) counts in
    let next : (x y : ℤ) → claimed_next_life n b s p.pattern.cell x y ≡ layer_next life u.cell x y =
    λ x y. ap (λ (c : ℤ → ℤ → ℕ). claimed_next_life n b s c x y) cells ∙ next_is life valid u.cell x y in
    record {
      now = p.pattern;
      next = q.pattern;
      now_is = p.is;
      next_is = q.is;
      neighbours = n;
      births = b;
      survivals = s;
      is = record {
        rule = p.rule ∙ ap rule_in step.rule;
        same_rule = q.rule ∙ ap rule_in step.same_rule ∙ sym p.rule;
        generation = q.generation ∙ step.generation ∙ ap (λ g. g + 1) (sym p.generation);
        not_last = λ e. space.0 (sym p.generation ∙ e);
        few = λ m. few.0 (m.0, same_cells p.pattern.cell u.cell m.0 cells m.1, m.2);
        inside = λ m. inside.0 (m.0, m.1, not_of_plane m.0 m.1 m.2, λ z. m.3 (next m.0 m.1 ∙ z));
        cells = λ x y. q.cells x y ∙ step.cells x y ∙ sym (next x y);
      };
      canonical = text_of_pattern t.universe q.pattern text (on_plane text t.universe t.reads) q.rule q.generation q.cells t.canonical;
    }

-- ---- what is not stepped

pub some_of : (f g : Fault) → Some f ≡ Some g → f ≡ g
some_of f g e = cc

pub unstepped_is : FilesAreOnPlane 62 → (bytes : List ℕ) (u : Universe) (fault : Fault) → Reads 62 bytes u → LifeRefusal 62 u (Some fault)
    → IsUnstepped bytes fault
unstepped_is on_plane bytes u fault h refusal = (p.pattern, p.is, by u.rule refl refusal)
  where
    p : Agrees bytes u
    p = files_agree bytes u h

    cells : p.pattern.cell ≡ u.cell
    cells = λ i x y. p.cells x y i

    is : (reason : Fault) → Some fault ≡ Some reason → IsFirstReason p.pattern reason → IsFirstReason p.pattern fault
    is reason e r = subst (IsFirstReason p.pattern) (sym (some_of fault reason e)) r

    by : (rule : LayerRule) → u.rule ≡ rule → RuleRefusal 62 rule u (Some fault) → IsFirstReason p.pattern fault
    by (Named name) r e = is (claimed_fault_of NeedsTable) e (no_table name (p.rule ∙ ap rule_in r))
    by (Life life) r (inl f) =
        is (claimed_fault_of GenerationTooLarge) f.1 (last_generation _ _ _ (p.rule ∙ ap rule_in r) (p.generation ∙ f.0))
    by (Life life) r (inr (space, inl f)) =
        is (claimed_fault_of TooManyCells) f.1
        (many_cells _ _ _ (p.rule ∙ ap rule_in r) (λ e. space (sym p.generation ∙ e)) (f.0.0, of_layer p.pattern.cell u.cell f.0.0 cells f.0.1, f.0.2))
    by (Life life) r (inr (space, inr (few, inl f))) =
        let n = most_neighbours life.near in
        let b = filter (has_digit life.sets.births) counts in
        let s = filter (has_digit life.sets.survivals) counts in
        let valid : IsLifeRule life = subst IsRule r (on_plane bytes u h).rule in
        let next : (x y : ℤ) → claimed_next_life n b s p.pattern.cell x y ≡ layer_next life u.cell x y =
        λ x y. ap (λ (c : ℤ → ℤ → ℕ). claimed_next_life n b s c x y) cells ∙ next_is life valid u.cell x y in
        is (claimed_fault_of OutOfPlane) f.1
        (leaves_plane n b s (p.rule ∙ ap rule_in r) (λ e. space (sym p.generation ∙ e))
        (λ m. few (m.0, same_cells p.pattern.cell u.cell m.0 cells m.1, m.2))
        (f.0.0, f.0.1, outside_is f.0.0 f.0.1 f.0.2, λ z. f.0.3 (sym (next f.0.0 f.0.1) ∙ z)))
    by (Life life) r (inr (space, inr (few, inr (inside, e)))) = cc

-- why a file is not stepped
pub unstepped_as : FilesAreOnPlane 62 → (bytes : List ℕ) (store : Nodes) (fault : Fault)
    → Refuses 62 bytes fault ⊎ (IsShortageOf store fault ⊎ ((u : Universe) × Reads 62 bytes u × LifeRefusal 62 u (Some fault)))
    → (pattern_of bytes ≡ Err fault) ⊎ (IsUnmet fault ⊎ IsUnstepped bytes fault)
unstepped_as on_plane bytes store fault (inl r) = inl (refuses_agree bytes fault r)
unstepped_as on_plane bytes store fault (inr (inl w)) = inr (inl (want_as store fault w))
unstepped_as on_plane bytes store fault (inr (inr h)) = inr (inr (unstepped_is on_plane bytes h.0 fault h.1 h.2))

-- the canonical text of a next generation's text is that text
pub next_is_fixed : FilesAreUnique 62 → (bytes text again : List ℕ) → LayerStepped bytes text → IsCanonical 62 text again → text ≡ again
next_is_fixed unique bytes text again h k =
    let t = h.3 in t.canonical ∙ ap (canon_text 62) (unique (lines_of text) t.universe k.universe t.reads k.reads) ∙ sym k.is
