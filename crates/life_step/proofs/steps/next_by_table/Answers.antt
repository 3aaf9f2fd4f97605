use Rattle.std.proofs.Common.{◌≡◌, ap, sym, subst, ◌∙◌, ◌≤◌, ◌^◌, ℕ, ℤ, List, Some, None, inl, inr, true≢false}
use Rattle.std.proofs.lemmas.Result.{IfOk-weaker, err_from_is_err_and}
use Rattle.life_base.specs.declared.cell.TheConstants.{MAX_LEVEL}
use Rattle.life_base.specs.declared.rule.Rule.TheVariants.{Named}
use Rattle.life_base.specs.Tree.{tree_cell}
use Rattle.life_mc.specs.Macrocell.{largest_state}
use Rattle.life_table.specs.declared.table.Table.{Table}
use Rattle.life_table.specs.Meaning.{Becomes}
use Rattle.life_quad.proofs.LawLemmas.{known_squares_are_full}
use Rattle.life_sweep.specs.Refused.{GenerationRefusal}
use Rattle.life_sweep.specs.Generation.{TableAnswers, states_at}
use Rattle.life_quad.proofs.KeepingLemmas.{keeps-then, adds-as, adds-then}
use Rattle.life_pattern.specs.Files.{Reads}
use Rattle.life_pattern.specs.Store.{IsNew}
use Rattle.life_pattern.specs.Store.{content, IsRead}
use Rattle.life_pattern.specs.Universe.{Universe}
use Rattle.life_step.specs.Refusals.{SomeOfTable, of_next, TableRefusal}
use Rattle.life_step.proofs.NeedFacts.{answered-by_table, handed-on, root-by_table}
use Rattle.life_step.proofs.StateFacts.{cell-byte}
use Rattle.life_step.proofs.StepFacts.{root-high, table-last, table-refused-read, table-stepped-read}
use Rattle.life_step.proofs.steps.next_by_table.Goals as goal

pub returns-then-not-is_rule_of-clause-refused : goal.returns-then-not-is_rule_of-clause-refused
returns-then-not-is_rule_of-clause-refused c =
    inr
    (λ bytes r.
    let other : ¬ (r.universe.rule ≡ Named c.args.table.now.name) =
    λ e. true≢false (sym (c.is_rule_of.ensures.1 (r.is.rule ∙ e)) ∙ c.if-not-is_rule_of.true) in
    (r.universe, r.reads, inl (other, ap Some c.of.ensures)))

pub returns-in_err-generation-clause-refused : goal.returns-in_err-generation-clause-refused
returns-in_err-generation-clause-refused c =
    let p = err_from_is_err_and c.from_residual.result c.from_residual.ensures.1 in
    let last = c.in_err-generation.ensures.last in
    let is = c.is_rule_of.ensures.0 c.if-not-is_rule_of.false in
    rw (p.1, p.2, last.1)
    (inr (λ bytes r. (r.universe, r.reads, table-last c.args.table.now r.universe (sym r.is.rule ∙ is) (sym r.is.generation ∙ last.0))))

pub next_law_generation-requires-clause-high : goal.next_law_generation-requires-clause-high
next_law_generation-requires-clause-high c =
    let fits = c.patterns_fit.ensures _ _ _ c.requires.1 in
    root-high c.args.pattern.rule _ fits.0.level

pub returns-in_err-square-clause-refused : goal.returns-in_err-square-clause-refused
returns-in_err-square-clause-refused c =
    let store = c.args.store.now in
    let table = c.args.table.now in
    let t = content store c.args.pattern.root in
    let fault = c.in_err-square.field-0.0 in
    let law : Table = c.in_ok-by_table.by_table in
    let same : law ≡ table = c.in_ok-by_table.ensures.table in
    let p = err_from_is_err_and c.from_residual-in_err-square.result c.from_residual-in_err-square.ensures.1 in
    let each : GenerationRefusal (TableAnswers law) law.n_states (2 ^ 20) t (Some fault) → (bytes : List ℕ) → IsRead MAX_LEVEL bytes store c.args.pattern
    → (u : Universe) × Reads MAX_LEVEL bytes u × TableRefusal MAX_LEVEL table u (Some fault) =
    λ h bytes r. (
      r.universe,
      r.reads,
      table-refused-read c.patterns_fit.ensures store c.args.pattern bytes r c.table_answers_at.ensures c.one_answer.ensures table
          (c.is_rule_of.ensures.0 c.if-not-is_rule_of.false) c.in_ok-generation.ensures.some (Some fault)
          (subst (λ (T : Table). GenerationRefusal (TableAnswers T) T.n_states (2 ^ 20) t (Some fault)) same h),
    ) in
    rw (p.1, p.2) (elim c.in_err-square.ensures.refusals [ inl want ↦ inl want | inr h ↦ inr (each h) ])

pub text_of_square-requires-clause-states : goal.text_of_square-requires-clause-states
text_of_square-requires-clause-states c =
    let squares = c.next_law_generation.new.squares in
    let next = content squares c.in_ok-square.square in
    let full = (known_squares_are_full squares c.in_ok-square.square c.in_ok-square.ensures.known.0).0 in
    λ x y. subst (λ q. tree_cell next x y ≤ largest_state q) (sym (c.is_rule_of.ensures.0 c.if-not-is_rule_of.false)) (cell-byte next full x y)

pub returns-in_err-square-clause-keeps : goal.returns-in_err-square-clause-keeps
returns-in_err-square-clause-keeps c = c.in_err-square.ensures.keeps

pub returns-clause-stepped : goal.returns-clause-stepped
returns-clause-stepped c =
    let t = content c.args.store.now c.args.pattern.root in
    let law : Table = c.in_ok-by_table.by_table in
    let same : law ≡ c.args.table.now = c.in_ok-by_table.ensures.table in
    let next = content c.next_law_generation.new.squares c.in_ok-square.square in
    let none = subst (λ (T : Table). GenerationRefusal (TableAnswers T) T.n_states (2 ^ 20) t None) same c.in_ok-square.ensures.accepted in
    let cells = subst (λ (T : Table). (x y : ℤ) → TableAnswers T (states_at (tree_cell t) x y) (Becomes (tree_cell next x y))) same
    c.in_ok-square.ensures.next in
    IfOk-weaker c.text_of_square.result _ _
    (λ text h bytes r. table-stepped-read c.patterns_fit.ensures c.args.store.now c.args.pattern bytes r c.table_answers_at.ensures c.one_answer.ensures
    c.args.table.now (c.is_rule_of.ensures.0 c.if-not-is_rule_of.false) c.in_ok-generation.ensures.some c.in_ok-generation.generation next text.items
    c.in_ok-generation.ensures.after cells none h) c.text_of_square.ensures.text

pub returns-clause-keeps : goal.returns-clause-keeps
returns-clause-keeps c = keeps-then c.in_ok-square.ensures.keeps c.text_of_square.ensures.keeps

pub returns-in_err-square-clause-needed : goal.returns-in_err-square-clause-needed
returns-in_err-square-clause-needed c full =
    let root = content c.args.store.now c.args.pattern.root in
    let P = IsNew c.next_law_generation.new.squares in (
      c.is_rule_of.ensures.0 c.if-not-is_rule_of.false,
      subst (λ (T : Table). SomeOfTable P T root) c.in_ok-by_table.ensures.table
          (of_next (handed-on _ c.from_residual-in_err-square.ensures.1 c.in_err-square.ensures.needed full)),
    )

pub returns-clause-needed : goal.returns-clause-needed
returns-clause-needed c full =
    let square = c.in_ok-square.ensures in
    let states = answered-by_table c.table_answers_at.ensures c.in_ok-by_table.by_table c.args.table.now _ _ c.in_ok-by_table.ensures.table square.next in
    root-by_table (IsNew c.text_of_square.new.store) c.args.table.now (c.is_rule_of.ensures.0 c.if-not-is_rule_of.false)
    (known_squares_are_full c.next_law_generation.new.squares _ square.known.0).0 square.level
    states (c.text_of_square.ensures.needed full)

pub returns-in_err-square-clause-adds : goal.returns-in_err-square-clause-adds
returns-in_err-square-clause-adds c =
    let root = content c.args.store.now c.args.pattern.root in
    adds-as _ c.in_err-square.ensures.adds
    (λ P some. (
      c.is_rule_of.ensures.0 c.if-not-is_rule_of.false,
      subst (λ (T : Table). SomeOfTable P T root) c.in_ok-by_table.ensures.table (of_next some),
    ))

pub returns-clause-adds : goal.returns-clause-adds
returns-clause-adds c =
    let root = content c.args.store.now c.args.pattern.root in
    let square = c.in_ok-square.ensures in
    let is = c.is_rule_of.ensures.0 c.if-not-is_rule_of.false in
    let states = answered-by_table c.table_answers_at.ensures c.in_ok-by_table.by_table c.args.table.now _ _ c.in_ok-by_table.ensures.table square.next in
    adds-then _ square.adds c.text_of_square.ensures.adds
    (λ P some. (is, subst (λ (T : Table). SomeOfTable P T root) c.in_ok-by_table.ensures.table (of_next some)))
    (λ P. root-by_table P c.args.table.now is (known_squares_are_full c.next_law_generation.new.squares _ square.known.0).0 square.level
    states)
