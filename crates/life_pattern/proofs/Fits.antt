-- A pattern that was read may be numbered, and has the cells of the file.
use Rattle.std.proofs.Common.{◌≡◌, ℕ, suc, ◌+◌, ◌-◌, ◌≤◌, List, ap, sym, ◌∙◌, subst, arith, ℤ}
use Rattle.life_base.specs.declared.cell.TheConstants.{MAX_LEVEL}
use Rattle.life_base.specs.declared.rule.Rule.{Rule}
use Rattle.life_base.specs.Tree.{Tree, depth, tree_cell}
use Rattle.life_mc.specs.Macrocell.{largest_state}
use Rattle.life_mc.specs.Squares.{HasStatesUpTo}
use Rattle.life_quad.specs.Moves.{trimmed_square}
use Rattle.life_quad.specs.Store.{Nodes}
use Rattle.life_pattern.specs.Universe.{Universe, IsSame, IsOnPlane, least_level, centred_square, whole}
use Rattle.life_pattern.specs.Store.{IsRead, IsTrimmed, content, universe_in}
use Rattle.life_pattern.specs.declared.pattern.Pattern.{Pattern}
use Rattle.life_pattern.proofs.TreeWords.{below_top, trimmed_to}
use Rattle.life_pattern.proofs.Trees.{depth_is, centred-trimmed}
pub use Rattle.life_pattern.proofs.Whole.{least-one}
use Rattle.life_pattern.proofs.Planes.{states-upto, trimmed-is, centred-tree_cell, tree_cell-outside}
use Rattle.life_pattern.proofs.Whole.{whole-is, whole-trimmed, same-cells, least-high}
use Rattle.life_pattern.proofs.Formats.{reads-plane}

-- a root is no single cell
pub root-high : (rule : Rule) (d : ℕ) → least_level rule ≤ d → 1 ≤ d
root-high rule d h = let o = least-one rule in omega (arith, o, h)

pub whole-fixed : (top : ℕ) (u : Universe) → 3 ≤ suc top → IsOnPlane (suc top) u → trimmed_square (whole (suc top) u) (least_level u.rule) ≡ whole (suc top) u
whole-fixed top u high h =
    let m = least_level u.rule in
    let w = whole-is top u (least-high u.rule (suc top) high) h in
    let n : suc top ≡ suc ((top - w.level) + w.level) = omega (arith, w.most) in
    trimmed-is m w.depth_of (least-one u.rule)
    ∙ ap (λ t. trimmed_to t m) w.is
    ∙ sym (centred-trimmed u.cell m (top - w.level) w.level (least-one u.rule) w.least w.outside)
    ∙ sym (ap (λ j. trimmed_to (centred_square u.cell j) m) n)
    ∙ sym (whole-trimmed (suc top) u)

pub whole-cells : (top : ℕ) (u : Universe) → 3 ≤ suc top → IsOnPlane (suc top) u → (x y : ℤ) → tree_cell (whole (suc top) u) x y ≡ u.cell x y
whole-cells top u high h =
    let w = whole-is top u (least-high u.rule (suc top) high) h in
    same-cells (tree_cell (whole (suc top) u)) u.cell (suc w.level) (centred-tree_cell w.depth_of ∙ w.is) (tree_cell-outside w.depth_of) w.outside

pub read-same : (bytes : List ℕ) (store : Nodes) (pattern : Pattern) → (r : IsRead MAX_LEVEL bytes store pattern)
    → IsSame r.universe (universe_in store pattern)
read-same bytes store pattern r =
    let plane = reads-plane below_top bytes r.universe (omega arith) r.reads in
    record {
      rule = sym r.is.rule;
      generation = sym r.is.generation;
      cells = λ x y. sym (whole-cells below_top r.universe (omega arith) plane x y) ∙ sym (ap (λ t. tree_cell t x y) r.is.root);
    }

pub read-fits : (bytes : List ℕ) (store : Nodes) (pattern : Pattern) → IsRead MAX_LEVEL bytes store pattern → IsTrimmed store pattern
read-fits bytes store pattern r =
    let u = r.universe in
    let plane = reads-plane below_top bytes u (omega arith) r.reads in
    let w = whole-is below_top u (least-high u.rule MAX_LEVEL (omega arith)) plane in
    let P : Tree → Rule → Type 0 = λ t q. (least_level q ≤ depth t) × (trimmed_square t (least_level q) ≡ t) × HasStatesUpTo (largest_state q) t in
    let deep : least_level u.rule ≤ depth (whole MAX_LEVEL u) = subst (λ n. least_level u.rule ≤ n) (sym (depth_is w.depth_of)) w.least in
    let all : P (whole MAX_LEVEL u) u.rule
    = (deep, whole-fixed below_top u (omega arith) plane, states-upto (largest_state u.rule) (whole MAX_LEVEL u) w.states) in
    let there : P (content store pattern.root) pattern.rule = subst (λ t. P t pattern.rule) (sym r.is.root) (subst (P (whole MAX_LEVEL u)) (sym r.is.rule) all)
    in
    record { known = r.is.known; level = there.0; trimmed = there.1; states = there.2 }
