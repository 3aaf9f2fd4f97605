use Rattle.std.proofs.Common.{◌≡◌, ◌≢◌, ◌<◌, ◌≤◌, ℕ, ℤ, List, Some, inl, inr, sym, ◌∙◌, ap, subst, arith}
use Rattle.std.proofs.lemmas.Result.{IfErr-weaker, IfOk-weaker, err_from_is_err_and}
use Rattle.life_base.specs.Refusal.{fault_of}
use Rattle.life_base.specs.Tree.{depth, tree_cell}
use Rattle.life_base.specs.declared.cell.TheConstants.{MAX_LEVEL}
use Rattle.life_base.specs.declared.fault.Fault.{Fault}
use Rattle.life_base.specs.declared.kind.Kind.TheVariants as kinds
use Rattle.life_mc.specs.Macrocell.{largest_state}
use Rattle.life_quad.proofs.KeepingLemmas.{keeps-same, keeps-then}
use Rattle.life_pattern.specs.Files.{Reads}
use Rattle.life_pattern.specs.Store.{content, IsRead}
use Rattle.life_pattern.specs.Universe.{Universe, least_level}
use Rattle.life_leap.proofs.AfterLemmas.{after-binary}
use Rattle.life_later.specs.Course.{LeavesWithin}
use Rattle.life_generations.specs.Later.{LaterRefusal}
use Rattle.life_generations.proofs.LaterFacts.{course-refused, name-refused}
use Rattle.life_generations.proofs.TextFacts.{generation-refused-read, leaving-refused-read, text-later, text-now}
use Rattle.life_generations.proofs.further.later_by_rule.Goals as goal

less : {n : ℕ} → n < 2 → n ≤ 1
less h = omega (arith, h)

pub text_of_square-requires-clause-high : goal.text_of_square-requires-clause-high
text_of_square-requires-clause-high c = (c.patterns_fit.ensures _ _ _ c.requires.1).0.level

pub text_of_square-requires-clause-states : goal.text_of_square-requires-clause-states
text_of_square-requires-clause-states c =
    let r = c.requires.1 in
    let u = r.universe in
    let same = (c.patterns_fit.ensures _ _ _ r).1 in
    let plane = c.files_are_on_plane.ensures c.requires.0 u r.reads in
    λ x y.
    subst (λ n. n ≤ largest_state c.args.pattern.rule) (same.cells x y) (subst (λ q. u.cell x y ≤ largest_state q) same.rule (plane.states x y))

pub returns-then-generations-eq0-clause-later : goal.returns-then-generations-eq0-clause-later
returns-then-generations-eq0-clause-later c =
    IfOk-weaker c.text_of_square.result _ _
    (λ text h bytes r. text-now c.patterns_fit.ensures c.args.store.now c.args.pattern bytes r c.files_are_on_plane.ensures c.args.generations
    (omega (arith, c.if-generations-eq0.true)) text.items h) c.text_of_square.ensures.text

pub returns-then-generations-eq0-clause-refused : goal.returns-then-generations-eq0-clause-refused
returns-then-generations-eq0-clause-refused c = IfErr-weaker c.text_of_square.result _ _ (λ fault h. inl h) c.text_of_square.ensures.want

pub returns-in_default-clause-refused : goal.returns-in_default-clause-refused
returns-in_default-clause-refused c =
    let some : c.args.generations ≢ 0 = λ e. omega (arith, c.if-generations-eq0.false, e) in
    inr (λ bytes r. (
      r.universe,
      r.reads,
      name-refused c.args.generations r.universe c.args.pattern.rule _ some r.is.rule c.in_default.not-Life (ap Some c.of.ensures),
    ))

pub returns-in_default-clause-keeps : goal.returns-in_default-clause-keeps
returns-in_default-clause-keeps c = keeps-same c.args.store.now

pub returns-in_err-generation-clause-keeps : goal.returns-in_err-generation-clause-keeps
returns-in_err-generation-clause-keeps c = keeps-same c.args.store.now

pub returns-in_err-generation-clause-refused : goal.returns-in_err-generation-clause-refused
returns-in_err-generation-clause-refused c =
    let p = err_from_is_err_and c.from_residual.result c.from_residual.ensures.1 in
    let large = c.in_err-generation.ensures.unnamed in
    rw (p.1, p.2, large.1)
    (inr (λ bytes r. (
      r.universe,
      r.reads,
      generation-refused-read c.patterns_fit.ensures c.args.store.now c.args.pattern bytes r c.args.generations c.in-Life.rule c.in-Life.is large.0,
    )))

pub later_in_stages-requires-clause-low : goal.later_in_stages-requires-clause-low
later_in_stages-requires-clause-low c =
    let fits = c.patterns_fit.ensures _ _ _ c.requires.1 in
    subst (λ q. least_level q ≤ depth (content c.args.store.now c.args.pattern.root)) c.in-Life.is fits.0.level

pub later_in_stages-requires-clause-states : goal.later_in_stages-requires-clause-states
later_in_stages-requires-clause-states c =
    let r = c.requires.1 in
    let u = r.universe in
    let fits = c.patterns_fit.ensures _ _ _ r in
    let plane = c.files_are_on_plane.ensures c.requires.0 u r.reads in
    let is = fits.1.rule ∙ c.in-Life.is in
    λ x y.
    let small = subst (λ q. u.cell x y ≤ largest_state q) is (plane.states x y) in
    let same = fits.1.cells x y in
    omega (arith, small, same)

pub returns-in_err-square-clause-refused : goal.returns-in_err-square-clause-refused
returns-in_err-square-clause-refused c =
    let store = c.args.store.now in
    let n = c.args.generations in
    let life = c.in-Life.rule in
    let fault = c.in_err-square.field-0.0 in
    let p = err_from_is_err_and c.from_residual-in_err-square.result c.from_residual-in_err-square.ensures.1 in
    let each : (fault ≡ fault_of kinds.OutOfPlane) × LeavesWithin life n (tree_cell (content store c.args.pattern.root))
    → (bytes : List ℕ) → IsRead MAX_LEVEL bytes store c.args.pattern → (u : Universe) × Reads MAX_LEVEL bytes u × LaterRefusal n u (Some fault) =
    λ h bytes r. (
      r.universe,
      r.reads,
      subst (λ (f : Fault). LaterRefusal n r.universe (Some f)) (sym h.0)
          (leaving-refused-read c.patterns_fit.ensures store c.args.pattern bytes r n life c.in-Life.is c.in_ok-generation.ensures.named h.1),
    ) in
    rw (p.1, p.2) (elim (course-refused life n _ _ _ _ c.in_err-square.ensures.refusals) [ inl want ↦ inl want | inr h ↦ inr (each h) ])

pub text_of_square-requires-2-clause-high : goal.text_of_square-requires-2-clause-high
text_of_square-requires-2-clause-high c =
    subst (λ q. least_level q ≤ depth (content c.later_in_stages.new.squares c.in_ok-square.square)) (sym c.in-Life.is) c.in_ok-square.ensures.low

pub text_of_square-requires-2-clause-states : goal.text_of_square-requires-2-clause-states
text_of_square-requires-2-clause-states c =
    let store = c.args.store.now in
    let next = content c.later_in_stages.new.squares c.in_ok-square.square in
    let r = c.requires.1 in
    let u = r.universe in
    let fits = c.patterns_fit.ensures _ _ _ r in
    let plane = c.files_are_on_plane.ensures c.requires.0 u r.reads in
    let is = fits.1.rule ∙ c.in-Life.is in
    let now : (x y : ℤ) → tree_cell (content store c.args.pattern.root) x y < 2 =
    λ x y.
    let small = subst (λ q. u.cell x y ≤ largest_state q) is (plane.states x y) in
    let same = fits.1.cells x y in
    omega (arith, small, same) in
    λ x y. subst (λ q. tree_cell next x y ≤ largest_state q) (sym c.in-Life.is)
    (subst (λ n. n ≤ 1) (sym (c.in_ok-square.ensures.later x y)) (less (after-binary c.in-Life.rule c.args.generations _ now x y)))

pub returns-clause-later : goal.returns-clause-later
returns-clause-later c =
    let next = content c.later_in_stages.new.squares c.in_ok-square.square in
    IfOk-weaker c.text_of_square-2.result _ _
    (λ text h bytes r. text-later c.patterns_fit.ensures c.args.store.now c.args.pattern bytes r c.args.generations c.in-Life.rule c.in-Life.is
    c.in_ok-generation.generation next text.items c.in_ok-generation.ensures.after c.in_ok-generation.ensures.named
    c.in_ok-square.ensures.later c.in_ok-square.ensures.stays h)
    c.text_of_square-2.ensures.text

pub returns-clause-refused : goal.returns-clause-refused
returns-clause-refused c = IfErr-weaker c.text_of_square-2.result _ _ (λ fault h. inl h) c.text_of_square-2.ensures.want

pub returns-clause-keeps : goal.returns-clause-keeps
returns-clause-keeps c = keeps-then c.in_ok-square.ensures.keeps c.text_of_square-2.ensures.keeps
