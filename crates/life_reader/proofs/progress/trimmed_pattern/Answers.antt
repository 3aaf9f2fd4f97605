use Rattle.std.proofs.Common.{◌≡◌, ℕ, ℤ, ◌≤◌, max, sym, ap, ◌∙◌, subst, arith}
use Rattle.life_base.specs.Tree.{Tree, depth, tree_cell, IsFull}
use Rattle.life_base.specs.declared.cell.TheConstants.{MAX_LEVEL}
use Rattle.life_base.specs.declared.rule.Rule.{Rule}
use Rattle.life_quad.specs.Moves.{trimmed_square}
use Rattle.life_quad.specs.Refused.{TrimmedTo}
use Rattle.life_quad.proofs.GrowsLemmas.{grows-err, only-grows}
use Rattle.life_quad.proofs.KeepingLemmas.{keeps-then, adds-as, adds-then}
use Rattle.life_reader.specs.Filling.{HasGrown}
use Rattle.life_reader.specs.Needs.{SomeGrown, SomeRoot}
use Rattle.life_pattern.specs.Universe.{Universe, least_level}
use Rattle.life_reader.proofs.PatternFacts.{trimmed-whole}
use Rattle.life_pattern.proofs.TreeWords.{below_top}
use Rattle.life_reader.proofs.NeedFacts.{grown-stays, root-grown, root-trimmed}
use Rattle.life_reader.proofs.OnlyFacts.{only-refused}
use Rattle.life_reader.proofs.progress.trimmed_pattern.Goals as goal

pub returns-clause-pattern : goal.returns-clause-pattern
returns-clause-pattern g c = λ u rule generation cells.
    let t : Tree = g.S.Squares.content c.grow_to.new.squares c.in_ok-root.root in
    let least : least_level u.rule ≡ c.least_level-least.result = ap least_level rule ∙ sym c.least_level-least.ensures in
    let high : least_level u.rule ≤ depth t = omega (arith, least, c.in_ok-root.ensures.level) in
    let known = c.in_ok-root.ensures.known in
    let whole-is = trimmed-whole below_top u t (g.met.S.Squares.full _ _ known) (g.met.S.Squares.low _ _ known) high
    (λ x y. c.in_ok-root.ensures.cells x y ∙ cells x y) in
    record {
      rule = sym rule;
      generation = sym generation;
      known = c.in_ok-root-2.ensures.known;
      root = c.in_ok-root-2.ensures.square ∙ ap (λ (n : ℕ). trimmed_square t n) (sym least) ∙ whole-is;
    }

pub returns-clause-grown : goal.returns-clause-grown
returns-clause-grown g c =
    let t : Tree = g.S.Squares.content c.args.squares.now c.args.root in
    grown-stays g.S.Squares c.grow_to.new.squares c.trim.new.squares t (least_level c.args.rule) c.in_ok-root-2.ensures.keeps.contents
    (subst (HasGrown g.S.Squares c.grow_to.new.squares t) c.least_level-least.ensures c.in_ok-root.ensures.grown)

-- the squares that the root of a pattern needs, where this is the square that was given, and these are its rule and the square's level
abbrev of_root : Rule → Tree → (Tree → Type 0) → Type 0
of_root rule t P =
    (u : Universe) → u.rule ≡ rule → ((x y : ℤ) → tree_cell t x y ≡ u.cell x y) → SomeRoot MAX_LEVEL P u (depth t)

-- a square that is grown, and one that is trimmed after it
grown : (rule : Rule) (t : Tree) (least : ℕ) → least ≡ least_level rule → IsFull t → 1 ≤ depth t → (P : Tree → Type 0) → SomeGrown P t least → of_root rule t P
grown rule t least is full high P s = λ u same cells.
    root-grown P u t full high cells (subst (SomeGrown P t) (is ∙ ap least_level (sym same)) s)

trimmed_to : (rule : Rule) (t r : Tree) (least : ℕ) → least ≡ least_level rule → IsFull r → depth r ≤ MAX_LEVEL → depth r ≡ max least (depth t)
    → ((x y : ℤ) → tree_cell r x y ≡ tree_cell t x y)
    → (P : Tree → Type 0) → TrimmedTo P r least → of_root rule t P
trimmed_to rule t r least is full low level cells P s = λ u same equal.
    let e : least ≡ least_level u.rule = is ∙ ap least_level (sym same) in
    root-trimmed P u r (depth t) full low (level ∙ ap (λ (m : ℕ). max m (depth t)) e) (λ x y. cells x y ∙ equal x y) (subst (TrimmedTo P r) e s)

pub returns-in_err-root-clause-grows : goal.returns-in_err-root-clause-grows
returns-in_err-root-clause-grows g c =
    let t : Tree = g.S.Squares.content c.args.squares.now c.args.root in
    grows-err (of_root c.args.rule t) (only-grows c.in_err-root.ensures.grows) c.from_residual.ensures.1
    (grown c.args.rule t c.least_level-least.result c.least_level-least.ensures (g.met.S.Squares.full _ _ c.requires.known) c.requires.high)

pub returns-in_err-root-2-clause-grows : goal.returns-in_err-root-2-clause-grows
returns-in_err-root-2-clause-grows g c =
    let t : Tree = g.S.Squares.content c.args.squares.now c.args.root in
    let Needs = of_root c.args.rule t in
    let known = c.in_ok-root.ensures.known in
    let first = adds-as Needs c.in_ok-root.ensures.grows.adds
    (grown c.args.rule t c.least_level-least.result c.least_level-least.ensures (g.met.S.Squares.full _ _ c.requires.known) c.requires.high) in
    let e = c.in_err-root-2.ensures in
    only-grows (only-refused Needs c.from_residual-in_err-root-2.result c.from_residual-in_err-root-2.ensures.1 c.in_ok-root.ensures.grows.keeps first
    e.keeps e.refusals e.needed e.adds
    (trimmed_to c.args.rule t _ c.least_level-least.result c.least_level-least.ensures (g.met.S.Squares.full _ _ known) (g.met.S.Squares.low _ _ known)
    c.in_ok-root.ensures.level c.in_ok-root.ensures.cells))

pub returns-clause-grows : goal.returns-clause-grows
returns-clause-grows g c =
    let t : Tree = g.S.Squares.content c.args.squares.now c.args.root in
    let Needs = of_root c.args.rule t in
    let known = c.in_ok-root.ensures.known in
    let first = adds-as Needs c.in_ok-root.ensures.grows.adds
    (grown c.args.rule t c.least_level-least.result c.least_level-least.ensures (g.met.S.Squares.full _ _ c.requires.known) c.requires.high) in
    record {
      keeps = keeps-then c.in_ok-root.ensures.grows.keeps c.in_ok-root-2.ensures.keeps;
      refusals = tt;
      needed = λ e. absurd (cc);
      adds = adds-then Needs first c.in_ok-root-2.ensures.adds (λ P a. a)
          (trimmed_to c.args.rule t _ c.least_level-least.result c.least_level-least.ensures (g.met.S.Squares.full _ _ known) (g.met.S.Squares.low _ _ known)
          c.in_ok-root.ensures.level c.in_ok-root.ensures.cells);
    }
