-- The root of a macrocell file, and the whole square of a pattern.
use Rattle.std.proofs.Common.{◌≡◌, ℕ, zero, suc, ◌-◌, ◌<◌, ◌≤◌, ◌&&◌, List, [], ◌∷◌, length, refl, ap, sym, ◌∙◌, subst, arith, inl, inr, ℤ}
use Rattle.life_base.specs.Tree.{Tree, tree_cell}
use Rattle.life_base.specs.declared.rule.Rule.{Rule}
use Rattle.life_base.specs.declared.rule.Rule.TheVariants.{Life, Named}
use Rattle.life_mc.specs.Macrocell.{Macrocell, IsValidMacrocell, level_of, largest_state}
use Rattle.life_mc.specs.Cells.{macrocell_cell, cell_of, root_level}
use Rattle.life_mc.specs.Squares.{root_tree}
use Rattle.life_mc.specs.declared.line.Line.{Line}
use Rattle.life_mc.specs.declared.line.Line.TheVariants.{Leaf, Quad}
use Rattle.life_mc.proofs.Squares.{lines_stand_for_squares}
use Rattle.life_quad.specs.Moves.{trimmed_square}
use Rattle.life_pattern.specs.Universe.{Universe, IsSame, least_level, square, corner, centred_square, whole, IsWithin, IsBlankOutside, IsOnPlane}
use Rattle.life_pattern.proofs.TreeWords.{HasDepth, StatesBelow, is_within, trimmed_to}
use Rattle.life_pattern.proofs.LineWords.{state_bound, line_at, IsValidLine}
use Rattle.life_pattern.proofs.LineFacts.{squares-valid, root_level-last}
use Rattle.life_pattern.proofs.Trees.{bool_cases, and_both, is_within-true, is_within-is, centred-depth, trimmed-centred, square-same, centred_same-cells}
use Rattle.life_pattern.proofs.Planes.{full-depth, states-below, trimmed-is, centred-tree_cell, tree_cell-outside, below-upto}
use Rattle.life_base.proofs.Basics.{right_of_and, left_of_and, true_false}

pub least-one : (rule : Rule) → 1 ≤ least_level rule
least-one (Life sets) = omega arith
least-one (Named name) = omega arith

-- ---- the cells of a valid macrocell file

-- what holds of the root of a file with node lines
pub record IsRooted (file : Macrocell) : Type 0 where
  pub level : ℕ
  pub is : root_level file.lines ≡ suc level
  pub depth_of : HasDepth (suc level) (root_tree file.lines)
  pub states : StatesBelow (state_bound file.rule) (root_tree file.lines)
  pub cells : centred_square (macrocell_cell file) (suc level) ≡ root_tree file.lines
  pub outside : IsBlankOutside (suc level) (macrocell_cell file)

pub level-positive : (top : ℕ) (rule : Rule) (lines : List Line) (i : ℕ) (line : Line) → IsValidLine top rule lines i line → (1 ≤ level_of line)
level-positive top rule lines i (Leaf rows) v = omega arith
level-positive top rule lines i (Quad level a b c d) v = v.0

pub level-most : (top : ℕ) (rule : Rule) (lines : List Line) (i : ℕ) (line : Line) → 3 ≤ top → IsValidLine top rule lines i line → level_of line ≤ top
level-most top rule lines i (Leaf rows) h v = h
level-most top rule lines i (Quad level a b c d) h v = v.1

last-valid : (top : ℕ) (file : Macrocell) → IsValidMacrocell top file → 0 < length file.lines → IsValidLine top file.rule file.lines (length file.lines - 1)
    (line_at file.lines (length file.lines - 1))
last-valid top file v h = squares-valid top file.rule file.lines v.squares (length file.lines - 1) (omega arith)

pub root-positive : (top : ℕ) (file : Macrocell) → IsValidMacrocell top file → 0 < length file.lines → 1 ≤ root_level file.lines
root-positive top file v h = subst (λ n. 1 ≤ n) (sym (root_level-last file.lines h)) (level-positive top file.rule file.lines _ _ (last-valid top file v h))

pub root-most : (top : ℕ) (file : Macrocell) → 3 ≤ top → IsValidMacrocell top file → 0 < length file.lines → root_level file.lines ≤ top
root-most top file high v h = subst (λ n. n ≤ top) (sym (root_level-last file.lines h)) (level-most top file.rule file.lines _ _ high (last-valid top file v h))

pub rooted : (top : ℕ) (file : Macrocell) → IsValidMacrocell top file → 0 < length file.lines → IsRooted file
unfolding centred_square
rooted top file v h =
    let s = lines_stand_for_squares top file v in
    let e : root_level file.lines ≡ suc (root_level file.lines - 1) = omega (arith, root-positive top file v h) in
    let k : ℕ = root_level file.lines - 1 in
    let t : Tree = root_tree file.lines in
    let d : HasDepth (suc k) t = subst (λ n. HasDepth n t) (s.root.depth_is ∙ e) (full-depth t s.root.full) in
    record {
      level = k;
      is = e;
      depth_of = d;
      states = states-below (largest_state file.rule) t s.root.states;
      cells = square-same (macrocell_cell file) (tree_cell t) s.plane (suc k) (corner (suc k)) (corner (suc k)) ∙ centred-tree_cell d;
      outside = λ x y n. s.plane x y ∙ tree_cell-outside d x y n;
    }

pub no-lines : (file : Macrocell) → length file.lines ≡ 0 → (x y : ℤ) → macrocell_cell file x y ≡ 0
no-lines file h x y = by file.lines h
  where
    by : (lines : List Line) → length lines ≡ 0 → cell_of lines x y ≡ 0
    by [] h = refl
    by (line ∷ lines) h = absurd (omega arith)

-- ---- the whole square of a pattern

pub square-states : (f : ℤ → ℤ → ℕ) (bound : ℕ) → ((x y : ℤ) → f x y < bound) → (k : ℕ) (x y : ℤ) → StatesBelow bound (square f k x y)
unfolding square
square-states f bound h zero x y = h x y
square-states f bound h (suc k) x y = (
  square-states f bound h k _ _,
  square-states f bound h k _ _,
  square-states f bound h k _ _,
  square-states f bound h k _ _,
)

pub centred-states : (f : ℤ → ℤ → ℕ) (bound : ℕ) → ((x y : ℤ) → f x y < bound) → (k : ℕ) → StatesBelow bound (centred_square f k)
unfolding centred_square
centred-states f bound h k = square-states f bound h k (corner k) (corner k)

-- what is known of the whole of a pattern
pub record IsWhole (top : ℕ) (u : Universe) (t : Tree) : Type 0 where
  pub level : ℕ
  pub least : least_level u.rule ≤ suc level
  pub most : suc level ≤ top
  pub is : t ≡ centred_square u.cell (suc level)
  pub depth_of : HasDepth (suc level) t
  pub states : StatesBelow (state_bound u.rule) t
  pub outside : IsBlankOutside (suc level) u.cell

pub whole-trimmed : (top : ℕ) (u : Universe) → whole top u ≡ trimmed_to (centred_square u.cell top) (least_level u.rule)
unfolding whole
whole-trimmed top u = trimmed-is (least_level u.rule) (centred-depth u.cell top) (least-one u.rule)

pub whole-is : (top : ℕ) (u : Universe) → least_level u.rule ≤ suc top → IsOnPlane (suc top) u → IsWhole (suc top) u (whole (suc top) u)
whole-is top u le h =
    let t = trimmed-centred u.cell (least_level u.rule) top (least-one u.rule) le h.outside in
    let e : whole (suc top) u ≡ centred_square u.cell (suc t.level) = whole-trimmed (suc top) u ∙ t.is in
    record {
      level = t.level;
      least = t.least;
      most = omega (arith, t.most);
      is = e;
      outside = t.outside;
      depth_of = subst (HasDepth (suc t.level)) (sym e) (centred-depth u.cell (suc t.level));
      states = subst (StatesBelow (state_bound u.rule)) (sym e)
          (centred-states u.cell (state_bound u.rule) (λ x y. below-upto (u.cell x y) (largest_state u.rule) (h.states x y)) (suc t.level));
    }

-- two planes with one square in the middle, and blank outside
pub same-cells : (f g : ℤ → ℤ → ℕ) (k : ℕ) → centred_square f k ≡ centred_square g k → IsBlankOutside k f → IsBlankOutside k g → (x y : ℤ) → f x y ≡ g x y
same-cells f g k e p q x y = elim (bool_cases (is_within k x && is_within k y)) [
  | inl i ↦ centred_same-cells f g k e x y (is_within-true k x (left_of_and (is_within k x) (is_within k y) i))
      (is_within-true k y (right_of_and (is_within k x) (is_within k y) i))
  | inr i ↦
      let n : ¬ (IsWithin k x × IsWithin k y) = λ w. true_false _ (and_both _ _ (is_within-is k x w.0) (is_within-is k y w.1)) i in
      p x y n ∙ sym (q x y n)
]

-- ---- the whole square depends on the pattern alone

pub same-whole : (top : ℕ) (u v : Universe) → IsSame u v → whole top u ≡ whole top v
unfolding whole centred_square
same-whole top u v s =
    ap (λ r. trimmed_square (square u.cell top (corner top) (corner top)) (least_level r)) s.rule
    ∙ ap (λ t. trimmed_square t (least_level v.rule)) (square-same u.cell v.cell s.cells top (corner top) (corner top))

pub least-high : (rule : Rule) (top : ℕ) → 3 ≤ top → least_level rule ≤ top
least-high (Life sets) top h = h
least-high (Named name) top h = omega arith
