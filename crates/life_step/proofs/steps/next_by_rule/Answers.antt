use Rattle.std.proofs.Common.{arith, ap, sym, subst, ◌∙◌, ◌≤◌, ◌^◌, ℕ, List, Some, inl, inr}
use Rattle.std.proofs.lemmas.Result.{IfOk-weaker, err_from_is_err_and}
use Rattle.life_base.specs.Tree.{depth, tree_cell}
use Rattle.life_base.specs.declared.cell.TheConstants.{MAX_LEVEL}
use Rattle.life_mc.specs.Macrocell.{largest_state}
use Rattle.life_quad.proofs.LawLemmas.{known_squares_are_full}
use Rattle.life_sweep.specs.Refused.{GenerationRefusal}
use Rattle.life_sweep.specs.Generation.{LifeAnswers}
use Rattle.life_quad.proofs.KeepingLemmas.{keeps-then, adds-as, adds-then}
use Rattle.life_pattern.specs.Files.{Reads}
use Rattle.life_pattern.specs.Store.{IsNew}
use Rattle.life_pattern.specs.Store.{content, IsRead}
use Rattle.life_pattern.specs.Universe.{Universe, least_level}
use Rattle.life_step.specs.Refusals.{LacksForLife, SomeByRule, of_generation, LifeRefusal}
use Rattle.life_step.proofs.NeedFacts.{handed-on, root-by_rule}
use Rattle.life_step.proofs.StepFacts.{next-small, needs-table, life-last, life-refused-read, life-stepped-read}
use Rattle.life_step.proofs.steps.next_by_rule.Goals as goal

pub returns-in_default-clause-refused : goal.returns-in_default-clause-refused
returns-in_default-clause-refused c =
    inr (λ bytes r. (r.universe, r.reads, needs-table r.universe c.args.pattern.rule _ r.is.rule c.in_default.not-Life (ap Some c.of.ensures)))

pub returns-in_err-generation-clause-refused : goal.returns-in_err-generation-clause-refused
returns-in_err-generation-clause-refused c =
    let p = err_from_is_err_and c.from_residual.result c.from_residual.ensures.1 in
    let last = c.in_err-generation.ensures.last in
    rw (p.1, p.2, last.1)
    (inr (λ bytes r. (r.universe, r.reads, life-last c.in-Life.rule r.universe (sym r.is.rule ∙ c.in-Life.is) (sym r.is.generation ∙ last.0))))

pub next_life_generation-requires-clause-high : goal.next_life_generation-requires-clause-high
next_life_generation-requires-clause-high c =
    let fits = c.patterns_fit.ensures _ _ _ c.requires.1 in
    let least = subst (λ q. least_level q ≤ depth (content c.args.store.now c.args.pattern.root)) c.in-Life.is fits.0.level in
    omega (arith, least)

pub next_life_generation-requires-clause-states : goal.next_life_generation-requires-clause-states
next_life_generation-requires-clause-states c =
    let r = c.requires.1 in
    let u = r.universe in
    let fits = c.patterns_fit.ensures _ _ _ r in
    let plane = c.files_are_on_plane.ensures c.requires.0 u r.reads in
    let is = fits.1.rule ∙ c.in-Life.is in
    λ x y.
    let small = subst (λ q. u.cell x y ≤ largest_state q) is (plane.states x y) in
    let same = fits.1.cells x y in
    omega (arith, small, same)

pub returns-in_err-square-clause-refused : goal.returns-in_err-square-clause-refused
returns-in_err-square-clause-refused c =
    let store = c.args.store.now in
    let life = c.in-Life.rule in
    let fault = c.in_err-square.field-0.0 in
    let p = err_from_is_err_and c.from_residual-in_err-square.result c.from_residual-in_err-square.ensures.1 in
    let each : GenerationRefusal (LifeAnswers life) 2 (2 ^ 20) (content store c.args.pattern.root) (Some fault)
    → (bytes : List ℕ) → IsRead MAX_LEVEL bytes store c.args.pattern → (u : Universe) × Reads MAX_LEVEL bytes u × LifeRefusal MAX_LEVEL u (Some fault) =
    λ h bytes r. (
      r.universe,
      r.reads,
      life-refused-read c.patterns_fit.ensures store c.args.pattern bytes r c.files_are_on_plane.ensures c.life_answers_at.ensures
          life c.in-Life.is c.in_ok-generation.ensures.some (Some fault) h,
    ) in
    rw (p.1, p.2) (elim c.in_err-square.ensures.refusals [ inl want ↦ inl want | inr h ↦ inr (each h) ])

pub returns-in_err-square-clause-keeps : goal.returns-in_err-square-clause-keeps
returns-in_err-square-clause-keeps c = c.in_err-square.ensures.keeps

pub text_of_square-requires-clause-states : goal.text_of_square-requires-clause-states
text_of_square-requires-clause-states c =
    let t = content c.args.store.now c.args.pattern.root in
    let next = content c.next_life_generation.new.squares c.in_ok-square.square in
    let life = c.in-Life.rule in
    λ x y. subst (λ q. tree_cell next x y ≤ largest_state q) (sym c.in-Life.is)
    (subst (λ n. n ≤ 1) (sym (c.in_ok-square.ensures.next x y)) (next-small life (tree_cell t) x y))

pub text_of_square-requires-clause-high : goal.text_of_square-requires-clause-high
text_of_square-requires-clause-high c =
    subst (λ q. least_level q ≤ depth (content c.next_life_generation.new.squares c.in_ok-square.square)) (sym c.in-Life.is) c.in_ok-square.ensures.high

pub returns-clause-stepped : goal.returns-clause-stepped
returns-clause-stepped c =
    let next = content c.next_life_generation.new.squares c.in_ok-square.square in
    IfOk-weaker c.text_of_square.result _ _
    (λ text h bytes r. life-stepped-read c.patterns_fit.ensures c.args.store.now c.args.pattern bytes r c.files_are_on_plane.ensures c.life_answers_at.ensures
    c.in-Life.rule c.in-Life.is c.in_ok-generation.ensures.some c.in_ok-generation.generation next text.items c.in_ok-generation.ensures.after
    c.in_ok-square.ensures.next c.in_ok-square.ensures.accepted h)
    c.text_of_square.ensures.text

pub returns-clause-keeps : goal.returns-clause-keeps
returns-clause-keeps c = keeps-then c.in_ok-square.ensures.keeps c.text_of_square.ensures.keeps

pub returns-in_err-square-clause-needed : goal.returns-in_err-square-clause-needed
returns-in_err-square-clause-needed c full =
    let root = content c.args.store.now c.args.pattern.root in
    subst (λ q. LacksForLife q root c.next_life_generation.new.squares) (sym c.in-Life.is)
    (of_generation (handed-on _ c.from_residual-in_err-square.ensures.1 c.in_err-square.ensures.needed full))

pub returns-clause-needed : goal.returns-clause-needed
returns-clause-needed c full =
    let square = c.in_ok-square.ensures in
    root-by_rule (IsNew c.text_of_square.new.store) (content c.args.store.now c.args.pattern.root) c.in-Life.is
    (known_squares_are_full c.next_life_generation.new.squares _ square.known.0).0 square.level
    square.next (c.text_of_square.ensures.needed full)

pub returns-in_err-square-clause-adds : goal.returns-in_err-square-clause-adds
returns-in_err-square-clause-adds c =
    let root = content c.args.store.now c.args.pattern.root in
    adds-as _ c.in_err-square.ensures.adds (λ P some. subst (λ q. SomeByRule P q root) (sym c.in-Life.is) (of_generation some))

pub returns-clause-adds : goal.returns-clause-adds
returns-clause-adds c =
    let root = content c.args.store.now c.args.pattern.root in
    let square = c.in_ok-square.ensures in
    adds-then _ square.adds c.text_of_square.ensures.adds
    (λ P some. subst (λ q. SomeByRule P q root) (sym c.in-Life.is) (of_generation some))
    (λ P. root-by_rule P root c.in-Life.is (known_squares_are_full c.next_life_generation.new.squares _ square.known.0).0 square.level square.next)
