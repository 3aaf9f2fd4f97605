-- A step by a table in the words of the claims is one in the layer below.
use Rattle.std.proofs.Common.{◌≡◌, ◌≢◌, ℕ, ◌+◌, ◌-◌, ◌^◌, ◌<◌, ◌≤◌, List, length, Bool, true, false, cond, refl, ap, ◌∙◌, sym, subst, arith, ◌⊎◌, inl, inr, ◌↔◌, Option, Some, None, Ok, Err, ℤ, bytes_eq, ◌==◌}
use Rattle.std.specs.Option.{unwrap_or}
use Rattle.std.proofs.lemmas.Slice.Eq.{bytes_eq-Decides}
use Rattle.std.proofs.lemmas.Bool.Decides.{leb_tells}
use Rattle.theorems.proofs.PlaneLaw.{not_of_plane, outside_is}
use Rattle.life_base.specs.Refusal.{fault_of}
use Rattle.life_base.specs.declared.fault.Fault.{Fault}
use Rattle.life_base.specs.declared.kind.Kind.TheVariants as kinds
use Rattle.life_base.specs.declared.rule.Rule.{Rule as LayerRule}
use Rattle.life_base.specs.declared.rule.Rule.TheVariants.{Life, Named}
use Rattle.life_table.specs.Meaning.{Answer as LayerAnswer, Becomes, Ambiguous}
use Rattle.life_table.specs.Valid.{neighbour_count}
use Rattle.life_table.specs.declared.table.Neighborhood.{Neighborhood}
use Rattle.life_table.specs.declared.table.Neighborhood.TheVariants.{VonNeumann, Moore}
use Rattle.life_table.specs.declared.table.Table.{Table as LayerTable}
use Rattle.life_sweep.specs.Generation.{AnswersAt, neighbours_at}
use Rattle.life_sweep.specs.Refused.{IfElse, HasStateFrom, fault_on}
use Rattle.life_base.specs.Text.{lines_of}
use Rattle.life_table.specs.Reading.{AreTable}
use Rattle.life_quad.specs.Store.{Nodes}
use Rattle.life_pattern.specs.Files.{Reads, Refuses}
use Rattle.life_pattern.specs.Store.{IsShortageOf}
use Rattle.life_pattern.specs.Laws.{FilesAreOnPlane, FilesAreUnique}
use Rattle.life_writer.specs.Listing.{canon_text}
use Rattle.life_writer.specs.Texts.{IsCanonical}
use Rattle.life_pattern.specs.Universe.{Universe}
use Rattle.life_step.specs.Stepped.{IsSteppedBy as LayerSteppedBy}
use Rattle.life_step.specs.Refusals.{TableRefusal, PatternHasMoreCells as LayerMoreCells, LeavesPlane as LayerLeaves, SomeAmbiguousCell, IsFirstAmbiguousCell as LayerFirst}
use Rattle.claims.specs.ByTable.{IsClaimedStepBy, HasStateBeyond, IsFirstClaimedAmbiguous, LeavesPlaneBy, IsFirstReasonBy, rule_differs, last_generation, many_cells, state_beyond, two_states, leaves_plane, IsUnsteppedBy}
use Rattle.claims.specs.Generation.{claimed_four_around, claimed_eight_around, HasMoreClaimedCells, decided_at}
use Rattle.claims.specs.Rules.{named}
use Rattle.claims.specs.Table.{Table, becomes, claimed_decision, table_of}
use Rattle.claims.specs.Files.{pattern_of, IsShortage as IsUnmet}
use Rattle.claims.proofs.RuleLaw.{rule_in}
use Rattle.theorems.proofs.FileLaw.{Agrees, files_agree}
use Rattle.theorems.proofs.RefusalLaw.{refuses_agree, want_as}
use Rattle.theorems.proofs.TextLaw.{text_of_pattern}
use Rattle.theorems.proofs.CellsLaw.{same_cells as of_layer}
use Rattle.theorems.proofs.StepLaw.{none_some, passes, same_cells, some_of}
use Rattle.claims.specs.TableLaws.{TablesRead, TablesDecide}
use Rattle.claims.specs.Tables.{IsTable, answer_in}

-- ---- rules

name_of : (rule : LayerRule) (name : List ℕ) → rule_in rule ≡ named name → rule ≡ Named name
name_of (Life rule) name e = cc
name_of (Named other) name e = ap Named (let k : other ≡ name = cc in k)

named_so : (rule : LayerRule) (name : List ℕ) → ((rule ≡ Named name → ⊥) → ⊥) → rule ≡ Named name
named_so (Life rule) name h = absurd (h (λ e. cc))
named_so (Named other) name h = by (bytes_eq other name) refl
  where
    by : (v : Bool) → bytes_eq other name ≡ v → Named other ≡ Named name
    by true e = ap Named ((bytes_eq-Decides other name).0 e)
    by false e = absurd (h (λ f. let g : other ≡ name = cc in let k : true ≡ false = sym ((bytes_eq-Decides other name).1 g) ∙ e in cc))

-- ---- what a table decides

around_is : (h : Neighborhood) (cell : ℤ → ℤ → ℕ) (x y : ℤ)
    → cond (neighbour_count h == 4) (claimed_four_around cell x y) (claimed_eight_around cell x y) ≡ neighbours_at h cell x y
around_is VonNeumann cell x y = refl
around_is Moore cell x y = refl

around_length : (h : Neighborhood) (cell : ℤ → ℤ → ℕ) (x y : ℤ) → length (neighbours_at h cell x y) ≡ neighbour_count h
around_length VonNeumann cell x y = refl
around_length Moore cell x y = refl

module _ (decide : TablesDecide) (layer : LayerTable) (table : Table) (is : IsTable layer table) where
  decided_is : (cell : ℤ → ℤ → ℕ) (x y : ℤ) → decided_at table cell x y
      ≡ claimed_decision table (cell x y) (neighbours_at layer.neighborhood cell x y) table.transitions
  decided_is cell x y =
      ap (λ (o : Option ℕ). claimed_decision table (cell x y) (cond (unwrap_or o 0 == 4) (claimed_four_around cell x y) (claimed_eight_around cell x y))
      table.transitions) is.neighbours
      ∙ ap (λ (v : List ℕ). claimed_decision table (cell x y) v table.transitions) (around_is layer.neighborhood cell x y)

  answers_is : (cell : ℤ → ℤ → ℕ) (x y : ℤ) (answer : LayerAnswer) → AnswersAt layer cell x y answer ↔ (decided_at table cell x y ≡ answer_in answer)
  answers_is cell x y answer =
      let d = decide layer table is (cell x y) (neighbours_at layer.neighborhood cell x y) (around_length layer.neighborhood cell x y) answer in
      (λ a. decided_is cell x y ∙ d.0 a, λ e. d.1 (sym (decided_is cell x y) ∙ e))

  -- ---- a step

  pub stepped_is : FilesAreOnPlane 62 → (bytes text : List ℕ) → LayerSteppedBy layer bytes text → IsClaimedStepBy table bytes text
  stepped_is on_plane bytes text h =
      let u = h.0 in
      let t = h.3 in
      let step = t.is in
      let p = files_agree bytes u h.1 in
      let q = files_agree text t.universe t.reads in
      let rule = passes h.2 (none_some _) in
      let space = passes rule.1 (none_some _) in
      let few = passes space.1 (none_some _) in
      let known = passes few.1 (none_some _) in
      let single = passes known.1 (λ m. none_some _ m.2) in
      let inside = passes single.1 (none_some _) in
      let cells : p.pattern.cell ≡ u.cell = λ i x y. p.cells x y i in
      let next : t.universe.cell ≡ q.pattern.cell = λ i x y. sym (q.cells x y) i in
      record {
        now = p.pattern;
        next = q.pattern;
        now_is = p.is;
        next_is = q.is;
        is = record {
          rule = p.rule ∙ ap rule_in step.rule ∙ ap named (sym is.name);
          same_rule = q.rule ∙ ap rule_in step.same_rule ∙ sym p.rule;
          generation = q.generation ∙ step.generation ∙ ap (λ g. g + 1) (sym p.generation);
          not_last = λ e. space.0 (sym p.generation ∙ e);
          few = λ m. few.0 (m.0, same_cells p.pattern.cell u.cell m.0 cells m.1, m.2);
          known = λ x y. subst (λ (o : Option ℕ). p.pattern.cell x y < unwrap_or o 0) (sym is.n_states)
              (below (p.pattern.cell x y) layer.n_states (λ l. known.0 (x, y, subst (λ n. layer.n_states ≤ n) (p.cells x y) l)));
          inside = λ x y e. zero (q.pattern.cell x y) (λ n. inside.0 (x, y, t.universe.cell x y, not_of_plane x y e, λ z. n (q.cells x y ∙ z), step.cells x y));
          cells = λ x y.
              ap (λ (c : ℤ → ℤ → ℕ). decided_at table c x y) cells ∙ (answers_is u.cell x y (Becomes (t.universe.cell x y))).0 (step.cells x y)
              ∙ ap becomes (sym (q.cells x y));
        };
        canonical = text_of_pattern t.universe q.pattern text (on_plane text t.universe t.reads) q.rule q.generation q.cells t.canonical;
      }
    where
      below : (a b : ℕ) → (b ≤ a → ⊥) → a < b
      below a b h = elim (leb_tells b a) [ inl e ↦ absurd (h e.1) | inr n ↦ n.1 ]

      zero : (n : ℕ) → (n ≢ 0 → ⊥) → n ≡ 0
      zero n h = grind (arith, h)

  -- ---- a refusal

  module _ (bytes : List ℕ) (u : Universe) (reads : Reads 62 bytes u) (fault : Fault) where
    p : Agrees bytes u
    p = files_agree bytes u reads

    abbrev cells : p.pattern.cell ≡ u.cell
    cells = λ i x y. p.cells x y i

    abbrev Reported : Fault → Type 0
    Reported f = IsFirstReasonBy table p.pattern f

    as_reported : (other : Fault) → Some fault ≡ Some other → Reported other → Reported fault
    as_reported other e t = subst Reported (sym (some_of fault other e)) t

    -- what the table decides for a cell of the pattern is the layer's answer there
    decides_here : (x y : ℤ) (answer : LayerAnswer) → AnswersAt layer u.cell x y answer → decided_at table p.pattern.cell x y ≡ answer_in answer
    decides_here x y answer a = ap (λ (c : ℤ → ℤ → ℕ). decided_at table c x y) cells ∙ (answers_is u.cell x y answer).0 a

    answers_here : (x y : ℤ) (answer : LayerAnswer) → decided_at table p.pattern.cell x y ≡ answer_in answer → AnswersAt layer u.cell x y answer
    answers_here x y answer e = (answers_is u.cell x y answer).1 (sym (ap (λ (c : ℤ → ℤ → ℕ). decided_at table c x y) cells) ∙ e)

    beyond : HasStateFrom layer.n_states u.cell → HasStateBeyond table p.pattern.cell
    beyond h = (
      h.0,
      h.1,
      subst (λ (o : Option ℕ). unwrap_or o 0 ≤ p.pattern.cell h.0 h.1) (sym is.n_states)
          (subst (λ n. layer.n_states ≤ n) (sym (p.cells h.0 h.1)) h.2),
    )

    not_beyond : HasStateBeyond table p.pattern.cell → HasStateFrom layer.n_states u.cell
    not_beyond h = (
      h.0,
      h.1,
      subst (λ n. layer.n_states ≤ n) (p.cells h.0 h.1)
          (subst (λ (o : Option ℕ). unwrap_or o 0 ≤ p.pattern.cell h.0 h.1) is.n_states h.2),
    )

    more_cells : HasMoreClaimedCells (2 ^ 20) p.pattern.cell → LayerMoreCells (2 ^ 20) u
    more_cells m = (m.0, same_cells p.pattern.cell u.cell m.0 cells m.1, m.2)

    first_is : (line : ℕ) → LayerFirst (AnswersAt layer u.cell) line → IsFirstClaimedAmbiguous table p.pattern.cell line
    first_is line f = record {
      x = f.x;
      y = f.y;
      here = decides_here f.x f.y (Ambiguous line) f.here;
      before = λ c r other o e. f.before c r other o (answers_here c r (Ambiguous other) e);
    }

    leaves_is : LayerLeaves (AnswersAt layer u.cell) 62 → LeavesPlaneBy table p.pattern.cell
    leaves_is l = (l.0, l.1, l.2, outside_is l.0 l.1 l.3, l.4, decides_here l.0 l.1 (Becomes l.2) l.5)

    module _ (rule : p.pattern.rule ≡ named table.name) where
      module _ (space : p.pattern.generation ≢ 2 ^ 64 - 1) (few : HasMoreClaimedCells (2 ^ 20) p.pattern.cell → ⊥) where
        behind_states : (HasStateBeyond table p.pattern.cell → ⊥)
            → IfElse (SomeAmbiguousCell (AnswersAt layer u.cell)) ((line : ℕ) × LayerFirst (AnswersAt layer u.cell) line × (Some fault ≡ Some (fault_on line)))
            (IfElse (LayerLeaves (AnswersAt layer u.cell) 62) (Some fault ≡ Some (fault_of kinds.OutOfPlane)) (Some fault ≡ None)) → Reported fault
        behind_states known (inl h) = as_reported (fault_on h.1.0) h.1.2 (two_states rule space few known h.1.0 (first_is h.1.0 h.1.1))
        behind_states known (inr (n, inl h)) =
            as_reported (fault_of kinds.OutOfPlane) h.1
            (leaves_plane rule space few known (λ x y line e. n (x, y, line, answers_here x y (Ambiguous line) e)) (leaves_is h.0))
        behind_states known (inr (n, inr h)) = absurd (none_some fault (sym h.1))

      behind_rule : IfElse (u.generation ≡ 2 ^ 64 - 1) (Some fault ≡ Some (fault_of kinds.GenerationTooLarge))
          (IfElse (LayerMoreCells (2 ^ 20) u) (Some fault ≡ Some (fault_of kinds.TooManyCells))
          (IfElse (HasStateFrom layer.n_states u.cell) (Some fault ≡ Some (fault_of kinds.StateBeyondTable))
          (IfElse (SomeAmbiguousCell (AnswersAt layer u.cell)) ((line : ℕ) × LayerFirst (AnswersAt layer u.cell) line × (Some fault ≡ Some (fault_on line)))
          (IfElse (LayerLeaves (AnswersAt layer u.cell) 62) (Some fault ≡ Some (fault_of kinds.OutOfPlane)) (Some fault ≡ None))))) → Reported fault
      behind_rule (inl h) = as_reported (fault_of kinds.GenerationTooLarge) h.1 (last_generation rule (p.generation ∙ h.0))
      behind_rule (inr (g, inl h)) =
          as_reported (fault_of kinds.TooManyCells) h.1
          (many_cells rule (λ e. g (sym p.generation ∙ e)) (h.0.0, of_layer p.pattern.cell u.cell h.0.0 cells h.0.1, h.0.2))
      behind_rule (inr (g, inr (m, inl h))) =
          as_reported (fault_of kinds.StateBeyondTable) h.1 (state_beyond rule (λ e. g (sym p.generation ∙ e)) (λ c. m (more_cells c)) (beyond h.0))
      behind_rule (inr (g, inr (m, inr (s, more)))) =
          behind_states (λ e. g (sym p.generation ∙ e)) (λ c. m (more_cells c)) (λ b. s (not_beyond b)) more

    first_reason : TableRefusal 62 layer u (Some fault) → Reported fault
    first_reason (inl h) =
        as_reported (fault_of kinds.RuleMismatch) h.1 (rule_differs (λ e. h.0 (name_of u.rule layer.name (sym p.rule ∙ e ∙ ap named is.name))))
    first_reason (inr a) = behind_rule (p.rule ∙ ap rule_in (named_so u.rule layer.name a.0) ∙ ap named (sym is.name)) a.1

    pub unstepped_is : TableRefusal 62 layer u (Some fault) → IsUnsteppedBy table bytes fault
    unstepped_is h = (p.pattern, p.is, first_reason h)

-- ---- texts

pub stepped_text : FilesAreOnPlane 62 → TablesRead → TablesDecide → (rules bytes text : List ℕ) (layer : LayerTable) → AreTable (lines_of rules) layer
    → LayerSteppedBy layer bytes text
    → (t : Table) × (table_of rules ≡ Ok t) × IsClaimedStepBy t bytes text
stepped_text on_plane read decide rules bytes text layer are h =
    let t = (read rules).0 layer are in
    (t.0, t.1, stepped_is decide layer t.0 t.2 on_plane bytes text h)

pub unstepped_text : TablesRead → TablesDecide → (rules bytes : List ℕ) (store : Nodes) (fault : Fault) (layer : LayerTable) → AreTable (lines_of rules) layer
    → Refuses 62 bytes fault ⊎ (IsShortageOf store fault ⊎ ((u : Universe) × Reads 62 bytes u × TableRefusal 62 layer u (Some fault)))
    → (table_of rules ≡ Err fault) ⊎ (IsUnmet fault ⊎ ((t : Table) × (table_of rules ≡ Ok t) × ((pattern_of bytes ≡ Err fault) ⊎ IsUnsteppedBy t bytes fault)))
unstepped_text read decide rules bytes store fault layer are h = by h
  where
    t : (table : Table) × (table_of rules ≡ Ok table) × IsTable layer table
    t = (read rules).0 layer are

    by : Refuses 62 bytes fault ⊎ (IsShortageOf store fault ⊎ ((u : Universe) × Reads 62 bytes u × TableRefusal 62 layer u (Some fault)))
        → (table_of rules ≡ Err fault) ⊎
        (IsUnmet fault ⊎ ((t : Table) × (table_of rules ≡ Ok t) × ((pattern_of bytes ≡ Err fault) ⊎ IsUnsteppedBy t bytes fault)))
    by (inl r) = inr (inr (t.0, t.1, inl (refuses_agree bytes fault r)))
    by (inr (inl w)) = inr (inl (want_as store fault w))
    by (inr (inr h)) = inr (inr (t.0, t.1, inr (unstepped_is decide layer t.0 t.2 bytes h.0 h.1 fault h.2)))

-- the canonical text of a next generation's text is that text
pub next_by_is_fixed : FilesAreUnique 62 → (layer : LayerTable) (bytes text again : List ℕ) → LayerSteppedBy layer bytes text → IsCanonical 62 text again
    → text ≡ again
next_by_is_fixed unique layer bytes text again h k =
    let t = h.3 in t.canonical ∙ ap (canon_text 62) (unique (lines_of text) t.universe k.universe t.reads k.reads) ∙ sym k.is
