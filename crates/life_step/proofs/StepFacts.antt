-- Steps: what the law of a rule answers for the square of a pattern is the next generation of what its file says.
use Rattle.std.proofs.Common.{◌≡◌, ◌≢◌, ℕ, ◌+◌, ◌-◌, ◌^◌, ◌<◌, ◌≤◌, Bool, true, false, ◌⊎◌, inl, inr, ℤ, List, Option, None, Some, refl, sym, ◌∙◌, ap, subst, arith, drop, slice_index, if◌then◌else◌, Result, Ok, Err, IfErr}
use Rattle.life_base.specs.Refusal.{fault_of}
use Rattle.life_base.specs.Rules.{IsRule}
use Rattle.life_base.specs.Sets.{OuterTotalistic}
use Rattle.life_base.specs.Tree.{Tree, depth, tree_cell, IsFull}
use Rattle.life_base.specs.declared.cell.TheConstants.{MAX_LEVEL}
use Rattle.life_base.specs.declared.fault.Fault.{Fault}
use Rattle.life_base.specs.declared.kind.Kind.TheVariants as kinds
use Rattle.life_base.specs.declared.rule.Near.{Near}
use Rattle.life_base.specs.declared.rule.Near.TheVariants.{Moore, VonNeumann}
use Rattle.life_base.specs.declared.rule.Rule.{Rule}
use Rattle.life_base.specs.declared.rule.Rule.TheVariants.{Life, Named}
use Rattle.life_mc.specs.Macrocell.{largest_state}
use Rattle.life_mc.specs.Squares.{HasStatesUpTo}
use Rattle.life_quad.specs.Moves.{trimmed_square}
use Rattle.life_quad.specs.Store.{Nodes}
use Rattle.life_quad.specs.declared.id.Id.{Id}
use Rattle.life_quad.proofs.LawLemmas.{known_squares_are_full, trimming_keeps_cells, trimmed_is_fixed, trimming_stops}
use Rattle.life_table.specs.Laws.{OneAnswer}
use Rattle.life_table.specs.Meaning.{Answer, Becomes, count_of}
use Rattle.life_table.specs.declared.table.Neighborhood.TheVariants as of_tables
use Rattle.life_table.specs.declared.table.Table.{Table}
use Rattle.life_next.specs.Generation.{one_before, one_after, next_by_count, next_life}
use Rattle.life_sweep.specs.Generation.{AnswersAt, LifeAnswersAt, TableAnswersAt, states_at, neighbours_among, LifeAnswers, TableAnswers}
use Rattle.life_sweep.specs.Refused.{GenerationRefusal}
use Rattle.life_pattern.specs.Files.{Reads, Refuses, as_macrocell}
use Rattle.life_pattern.specs.Laws.{FilesAreOnPlane, PatternsFit}
use Rattle.life_writer.specs.Laws.{TextsAreFiles, TextsTellUniverses}
use Rattle.life_writer.specs.Listing.{canonical_file, canon_text}
use Rattle.life_pattern.specs.Store.{IsKnown, content, IsRead, IsTrimmed, IsShortageOf, universe_in}
use Rattle.life_pattern.specs.Universe.{Universe, IsSame, IsOnPlane, least_level, square_universe, macrocell_universe}
use Rattle.life_pattern.specs.declared.pattern.Pattern.{Pattern}
pub use Rattle.life_pattern.proofs.Whole.{least-one}
pub use Rattle.life_pattern.proofs.Fits.{root-high}
use Rattle.life_step.specs.Refusals.{TableRefusal, LifeRefusal, RuleRefusal}
use Rattle.life_step.specs.Stepped.{IsLifeStep, IsTableStep, IsTextWith}
use Rattle.life_step.proofs.RefusalFacts.{refusal-at, life-refusal, blank-outside}
use Rattle.life_step.proofs.StateFacts.{states-up-to}

-- ---- refusals

-- what refuses the step of a pattern refuses that of its file
pub step-refused : {X : Type 0} (bytes : List ℕ) (old new : Nodes) (pattern : Pattern) (Q : Fault → Universe → Type 0) → IsRead MAX_LEVEL bytes old pattern
    → (r : Result X Fault)
    → IfErr r (λ fault. IsShortageOf new fault ⊎ ((b : List ℕ) → IsRead MAX_LEVEL b old pattern → (u : Universe) × Reads MAX_LEVEL b u × Q fault u))
    → IfErr r (λ fault. Refuses MAX_LEVEL bytes fault ⊎ (IsShortageOf new fault ⊎ ((u : Universe) × Reads MAX_LEVEL bytes u × Q fault u)))
step-refused bytes old new pattern Q read (Ok x) h = tt
step-refused bytes old new pattern Q read (Err fault) (inl want) = inr (inl want)
step-refused bytes old new pattern Q read (Err fault) (inr step) = inr (inr (step bytes read))

-- a rule that is no B/S rule is refused without a table
pub needs-table : (u : Universe) (rule : Rule) (refusal : Option Fault) → rule ≡ u.rule → ((life : OuterTotalistic) → rule ≡ Life life → ⊥)
    → refusal ≡ Some (fault_of kinds.NeedsTable)
    → LifeRefusal MAX_LEVEL u refusal
needs-table u rule refusal is other e = subst (λ (r : Rule). RuleRefusal MAX_LEVEL r u refusal) is (by rule other)
  where
    by : (r : Rule) → ((life : OuterTotalistic) → r ≡ Life life → ⊥) → RuleRefusal MAX_LEVEL r u refusal
    by (Named name) h = e
    by (Life life) h = absurd (h life refl)

-- ---- the text of a square

-- a trimmed square may be numbered
pub trimmed-fits : (store : Nodes) (rule : Rule) (generation : ℕ) (root : Id) (t : Tree) → IsKnown store root
    → content store root ≡ trimmed_square t (least_level rule)
    → IsFull t → least_level rule ≤ depth t → ((x y : ℤ) → tree_cell t x y ≤ largest_state rule)
    → IsTrimmed store (record { rule = rule; generation = generation; root = root })
trimmed-fits store rule generation root t known is full least states =
    let m = least_level rule in
    let one = least-one rule in
    let fixed = trimmed_is_fixed t m full one in
    let high = (trimming_stops t m full one).0 least in
    let upto = states-up-to (largest_state rule) (trimmed_square t m) fixed.0
    (λ x y. subst (λ n. n ≤ largest_state rule) (sym (trimming_keeps_cells t m full one x y)) (states x y)) in
    record {
      known = known;
      level = subst (λ s. m ≤ depth s) (sym is) high;
      trimmed = ap (λ s. trimmed_square s m) is ∙ fixed.1 ∙ sym is;
      states = subst (HasStatesUpTo (largest_state rule)) (sym is) upto;
    }

pub plane-of : (rule : Rule) (generation : ℕ) (s t : Tree) → IsRule rule → generation < 2 ^ 64 → ((x y : ℤ) → tree_cell s x y ≡ tree_cell t x y)
    → depth t ≤ MAX_LEVEL
    → ((x y : ℤ) → tree_cell t x y ≤ largest_state rule) → IsOnPlane MAX_LEVEL (square_universe rule generation s)
plane-of rule generation s t is small same level states = record {
  rule = is;
  generation = small;
  states = λ x y. subst (λ n. n ≤ largest_state rule) (sym (same x y)) (states x y);
  outside = λ x y n. same x y ∙ blank-outside t level x y n;
}

-- a canonical text says its pattern
text-of : FilesAreOnPlane MAX_LEVEL → TextsAreFiles MAX_LEVEL → TextsTellUniverses MAX_LEVEL → (u v : Universe) → IsSame u v → IsOnPlane MAX_LEVEL v
    → (text : List ℕ) → text ≡ canon_text MAX_LEVEL v → IsTextWith MAX_LEVEL (IsSame u) text
text-of on_plane files tell u v same plane text e =
    let said = macrocell_universe (canonical_file MAX_LEVEL v) in
    let f = files v plane in
    let reads : Reads MAX_LEVEL (canon_text MAX_LEVEL v) said = as_macrocell (canonical_file MAX_LEVEL v) f.0 in
    record {
      universe = said;
      is = record { rule = same.rule ∙ f.1.rule; generation = same.generation ∙ f.1.generation; cells = λ x y. same.cells x y ∙ f.1.cells x y };
      reads = subst (λ b. Reads MAX_LEVEL b said) (sym e) reads;
      canonical = e ∙ (tell v said plane (on_plane (canon_text MAX_LEVEL v) said reads)).1 f.1;
    }

pub text-of-square : FilesAreOnPlane MAX_LEVEL → TextsAreFiles MAX_LEVEL → TextsTellUniverses MAX_LEVEL
    → (store : Nodes) (rule : Rule) (generation : ℕ) (root : Id) (t : Tree) → IsRule rule → generation < 2 ^ 64
    → content store root ≡ trimmed_square t (least_level rule)
    → IsFull t → depth t ≤ MAX_LEVEL → ((x y : ℤ) → tree_cell t x y ≤ largest_state rule)
    → (text : List ℕ) → text ≡ canon_text MAX_LEVEL (universe_in store (record { rule = rule; generation = generation; root = root }))
    → IsTextWith MAX_LEVEL (IsSame (square_universe rule generation t)) text
text-of-square on_plane files tell store rule generation root t is small e full level states text written =
    let same : (x y : ℤ) → tree_cell (content store root) x y ≡ tree_cell t x y =
    λ x y. ap (λ s. tree_cell s x y) e ∙ trimming_keeps_cells t (least_level rule) full (least-one rule) x y in
    text-of on_plane files tell (square_universe rule generation t) (square_universe rule generation (content store root))
    (record { rule = refl; generation = refl; cells = λ x y. sym (same x y) }) (plane-of rule generation (content store root) t is small same level states) text
    written

-- ---- answers

-- equal planes have equal neighbourhoods
same-states : (f g : ℤ → ℤ → ℕ) → ((x y : ℤ) → f x y ≡ g x y) → (x y : ℤ) → states_at f x y ≡ states_at g x y
same-states f g h x y =
    let a = h x y in
    let b = h x (one_before y) in
    let c = h (one_after x) (one_before y) in
    let d = h (one_after x) y in
    let e = h (one_after x) (one_after y) in
    let i = h x (one_after y) in
    let j = h (one_before x) (one_after y) in
    let k = h (one_before x) y in
    let l = h (one_before x) (one_before y) in
    cc

pub next-small : (life : OuterTotalistic) (cells : ℤ → ℤ → ℕ) (x y : ℤ) → next_life life cells x y ≤ 1
next-small life cells x y = by _
  where
    by : (b : Bool) → (if b then 1 else 0) ≤ 1
    by true = omega arith
    by false = omega arith

-- and equal next states
pub same-next : (life : OuterTotalistic) (f g : ℤ → ℤ → ℕ) → ((x y : ℤ) → f x y ≡ g x y) → (x y : ℤ) → next_life life f x y ≡ next_life life g x y
same-next life f g h x y = by life.near
  where
    by : (near : Near) → next_life (record { sets = life.sets; near = near }) f x y ≡ next_life (record { sets = life.sets; near = near }) g x y
    by Moore = ap (λ v. next_by_count life.sets (slice_index v 0) (count_of 1 (drop 1 v))) (same-states f g h x y)
    by VonNeumann = ap (λ v. next_by_count life.sets (slice_index v 0) (count_of 1 (neighbours_among of_tables.VonNeumann v))) (same-states f g h x y)

-- ---- under a B/S rule

module _ (law : LifeAnswersAt) (life : OuterTotalistic) (u : Universe) (t : Tree) (same : (x y : ℤ) → u.cell x y ≡ tree_cell t x y) where
  life-to : (x y : ℤ) (a : Answer) → LifeAnswers life (states_at (tree_cell t) x y) a → a ≡ Becomes (next_life life u.cell x y)
  life-to x y a h = (law life u.cell x y a).0 (subst (λ v. LifeAnswers life v a) (sym (same-states u.cell (tree_cell t) same x y)) h)

  life-from : (x y : ℤ) (a : Answer) → a ≡ Becomes (next_life life u.cell x y) → LifeAnswers life (states_at (tree_cell t) x y) a
  life-from x y a h = subst (λ v. LifeAnswers life v a) (same-states u.cell (tree_cell t) same x y) ((law life u.cell x y a).1 h)

  -- the refusal is the one of the file
  pub life-refused : u.rule ≡ Life life → u.generation ≢ 2 ^ 64 - 1 → ((x y : ℤ) → u.cell x y ≤ 1) → IsFull t → 1 ≤ depth t
      → (refusal : Option Fault) → GenerationRefusal (LifeAnswers life) 2 (2 ^ 20) t refusal → LifeRefusal MAX_LEVEL u refusal
  life-refused e generation small full high refusal h =
      subst (λ rule. RuleRefusal MAX_LEVEL rule u refusal) (sym e)
      (inr (
        generation,
        life-refusal u life (2 ^ 20) refusal small
            (refusal-at t u same full high (LifeAnswers life) (λ x y a. a ≡ Becomes (next_life life u.cell x y)) life-to life-from (λ states a b p q. p ∙ sym q)
            2 (2 ^ 20) refusal h),
      ))

-- the text is that of the next generation
pub life-stepped : (life : OuterTotalistic) (u : Universe) (rule : Rule) (generation : ℕ) (r : Tree) (text : List ℕ)
    → u.rule ≡ Life life → rule ≡ u.rule → generation ≡ u.generation + 1 → ((x y : ℤ) → tree_cell r x y ≡ next_life life u.cell x y)
    → IsTextWith MAX_LEVEL (IsSame (square_universe rule generation r)) text → IsTextWith MAX_LEVEL (IsLifeStep u) text
life-stepped life u rule generation r text is same later next h = record {
  universe = h.universe;
  is = record {
    life = life;
    rule = is;
    same_rule = sym h.is.rule ∙ same;
    generation = sym h.is.generation ∙ later;
    cells = λ x y. sym (h.is.cells x y) ∙ next x y;
  };
  reads = h.reads;
  canonical = h.canonical;
}

pub life-last : (life : OuterTotalistic) (u : Universe) → u.rule ≡ Life life → u.generation ≡ 2 ^ 64 - 1
    → LifeRefusal MAX_LEVEL u (Some (fault_of kinds.GenerationTooLarge))
life-last life u e last = subst (λ rule. RuleRefusal MAX_LEVEL rule u (Some (fault_of kinds.GenerationTooLarge))) (sym e) (inl (last, refl))

-- ---- by a table

module _ (law : TableAnswersAt) (table : Table) (u : Universe) (t : Tree) (same : (x y : ℤ) → u.cell x y ≡ tree_cell t x y) where
  table-to : (x y : ℤ) (a : Answer) → TableAnswers table (states_at (tree_cell t) x y) a → AnswersAt table u.cell x y a
  table-to x y a h = (law table u.cell x y a).0 (subst (λ v. TableAnswers table v a) (sym (same-states u.cell (tree_cell t) same x y)) h)

  table-from : (x y : ℤ) (a : Answer) → AnswersAt table u.cell x y a → TableAnswers table (states_at (tree_cell t) x y) a
  table-from x y a h = subst (λ v. TableAnswers table v a) (same-states u.cell (tree_cell t) same x y) ((law table u.cell x y a).1 h)

  pub table-refused : OneAnswer → u.rule ≡ Named table.name → u.generation ≢ 2 ^ 64 - 1 → IsFull t → 1 ≤ depth t
      → (refusal : Option Fault) → GenerationRefusal (TableAnswers table) table.n_states (2 ^ 20) t refusal → TableRefusal MAX_LEVEL table u refusal
  table-refused one e generation full high refusal h =
      inr (
        λ n. n e,
        inr (
          generation,
          refusal-at t u same full high (TableAnswers table) (AnswersAt table u.cell) table-to table-from (λ states a b p q. one _ _ _ _ _ a b p q)
              table.n_states (2 ^ 20) refusal h,
        ),
      )

  pub table-stepped : (rule : Rule) (generation : ℕ) (r : Tree) (text : List ℕ)
      → u.rule ≡ Named table.name → rule ≡ u.rule → generation ≡ u.generation + 1
      → ((x y : ℤ) → TableAnswers table (states_at (tree_cell t) x y) (Becomes (tree_cell r x y)))
      → IsTextWith MAX_LEVEL (IsSame (square_universe rule generation r)) text → IsTextWith MAX_LEVEL (IsTableStep table u) text
  table-stepped rule generation r text is same_rule later next h = record {
    universe = h.universe;
    is = record {
      rule = is;
      same_rule = sym h.is.rule ∙ same_rule;
      generation = sym h.is.generation ∙ later;
      cells = λ x y. subst (λ n. AnswersAt table u.cell x y (Becomes n)) (h.is.cells x y) (table-to x y _ (next x y));
    };
    reads = h.reads;
    canonical = h.canonical;
  }

pub table-last : (table : Table) (u : Universe) → u.rule ≡ Named table.name → u.generation ≡ 2 ^ 64 - 1
    → TableRefusal MAX_LEVEL table u (Some (fault_of kinds.GenerationTooLarge))
table-last table u e last = inr (λ n. n e, inl (last, refl))

-- ---- a pattern that was read

module _ (fit : PatternsFit MAX_LEVEL) (store : Nodes) (pattern : Pattern) (bytes : List ℕ) (r : IsRead MAX_LEVEL bytes store pattern) where
  -- what refuses the step of its square refuses that of its file
  pub life-refused-read : FilesAreOnPlane MAX_LEVEL → LifeAnswersAt → (life : OuterTotalistic) → pattern.rule ≡ Life life → pattern.generation ≢ 2 ^ 64 - 1
      → (refusal : Option Fault) → GenerationRefusal (LifeAnswers life) 2 (2 ^ 20) (content store pattern.root) refusal
      → LifeRefusal MAX_LEVEL r.universe refusal
  life-refused-read plane law life is some refusal h =
      let u = r.universe in
      let fits = fit bytes store pattern r in
      let rule : u.rule ≡ Life life = fits.1.rule ∙ is in
      let small : (x y : ℤ) → u.cell x y ≤ 1 = λ x y. subst (λ q. u.cell x y ≤ largest_state q) rule ((plane bytes u r.reads).states x y) in
      life-refused law life u (content store pattern.root) fits.1.cells rule (λ e. some (sym fits.1.generation ∙ e)) small
      ((known_squares_are_full store pattern.root fits.0.known.0).0) (root-high pattern.rule _ fits.0.level) refusal h

  -- the step of its square is that of its file
  pub life-stepped-read : FilesAreOnPlane MAX_LEVEL → LifeAnswersAt → (life : OuterTotalistic) → pattern.rule ≡ Life life → pattern.generation ≢ 2 ^ 64 - 1
      → (generation : ℕ) (next : Tree) (text : List ℕ) → generation ≡ pattern.generation + 1
      → ((x y : ℤ) → tree_cell next x y ≡ next_life life (tree_cell (content store pattern.root)) x y)
      → GenerationRefusal (LifeAnswers life) 2 (2 ^ 20) (content store pattern.root) None
      → IsTextWith MAX_LEVEL (IsSame (square_universe pattern.rule generation next)) text
      → (u : Universe) × Reads MAX_LEVEL bytes u × LifeRefusal MAX_LEVEL u None × IsTextWith MAX_LEVEL (IsLifeStep u) text
  life-stepped-read plane law life is some generation next text later cells accepted h =
      let u = r.universe in
      let same = (fit bytes store pattern r).1 in
      let moved : (x y : ℤ) → tree_cell next x y ≡ next_life life u.cell x y =
      λ x y. cells x y ∙ same-next life (tree_cell (content store pattern.root)) u.cell (λ i j. sym (same.cells i j)) x y in (
        u,
        r.reads,
        life-refused-read plane law life is some None accepted,
        life-stepped life u pattern.rule generation next text (same.rule ∙ is) (sym same.rule) (later ∙ ap (λ n. n + 1) (sym same.generation)) moved h,
      )

  -- the same by a table
  pub table-refused-read : TableAnswersAt → OneAnswer → (table : Table) → pattern.rule ≡ Named table.name → pattern.generation ≢ 2 ^ 64 - 1
      → (refusal : Option Fault) → GenerationRefusal (TableAnswers table) table.n_states (2 ^ 20) (content store pattern.root) refusal
      → TableRefusal MAX_LEVEL table r.universe refusal
  table-refused-read law one table is some refusal h =
      let fits = fit bytes store pattern r in
      table-refused law table r.universe (content store pattern.root) fits.1.cells one (fits.1.rule ∙ is) (λ e. some (sym fits.1.generation ∙ e))
      ((known_squares_are_full store pattern.root fits.0.known.0).0) (root-high pattern.rule _ fits.0.level) refusal h

  pub table-stepped-read : TableAnswersAt → OneAnswer → (table : Table) → pattern.rule ≡ Named table.name → pattern.generation ≢ 2 ^ 64 - 1
      → (generation : ℕ) (next : Tree) (text : List ℕ) → generation ≡ pattern.generation + 1
      → ((x y : ℤ) → TableAnswers table (states_at (tree_cell (content store pattern.root)) x y) (Becomes (tree_cell next x y)))
      → GenerationRefusal (TableAnswers table) table.n_states (2 ^ 20) (content store pattern.root) None
      → IsTextWith MAX_LEVEL (IsSame (square_universe pattern.rule generation next)) text
      → (u : Universe) × Reads MAX_LEVEL bytes u × TableRefusal MAX_LEVEL table u None × IsTextWith MAX_LEVEL (IsTableStep table u) text
  table-stepped-read law one table is some generation next text later cells accepted h =
      let u = r.universe in
      let same = (fit bytes store pattern r).1 in (
        u,
        r.reads,
        table-refused-read law one table is some None accepted,
        table-stepped law table u (content store pattern.root) same.cells pattern.rule generation next text (same.rule ∙ is) (sym same.rule)
            (later ∙ ap (λ n. n + 1) (sym same.generation)) cells h,
      )
