-- The lines of the squares of a root.
use Rattle.std.proofs.Common.{◌≡◌, ℕ, suc, ◌+◌, ◌-◌, ◌^◌, ◌<◌, ◌≤◌, List, length, ap, sym, ◌∙◌, subst, arith, ℤ}
use Rattle.life_base.specs.Tree.{Tree, depth, IsFull, tree_cell}
use Rattle.life_base.specs.declared.rule.Rule.{Rule}
use Rattle.life_pattern.specs.Universe.{least_level, IsOnPlane, square_universe, centred_square, whole, IsBlankOutside}
use Rattle.life_writer.specs.Listing.{listed_squares, lines_for, square_file, canonical_file}
use Rattle.life_writer.specs.Least.{IsLeastLineCount}
use Rattle.life_base.specs.Rules.{IsRule}
use Rattle.life_mc.specs.Cells.{node_lines}
use Rattle.life_mc.specs.Macrocell.{AreSquares, largest_state}
use Rattle.life_mc.specs.Squares.{HasStatesUpTo}
use Rattle.life_mc.specs.declared.line.Line.{Line}
use Rattle.life_mc.proofs.Accepted.{files_are_valid}
use Rattle.life_quad.specs.Moves.{trimmed_square}
use Rattle.life_pattern.proofs.TreeWords.{HasDepth, trimmed_to}
use Rattle.life_pattern.proofs.LineWords.{state_bound}
use Rattle.life_pattern.proofs.LineFacts.{valid-squares}
use Rattle.life_pattern.proofs.Trees.{centred-trimmed, outside-by}
use Rattle.life_pattern.proofs.Planes.{full-depth, states-below, trimmed-is, centred-tree_cell, tree_cell-outside, tree_cell-below, upto-below}
use Rattle.life_pattern.proofs.Whole.{whole-trimmed}
use Rattle.life_writer.proofs.Least.{least}
use Rattle.life_pattern.proofs.Whole.{least-one}
use Rattle.life_writer.proofs.Content.{lines_for-valid}

-- the lines of the list are squares
pub valid-lines : (top : ℕ) (rule : Rule) (root : Tree) → IsFull root → HasStatesUpTo (largest_state rule) root → depth root ≤ top → (all : List Tree)
    → all ≡ listed_squares root (least_level rule)
    → (lines : List Line) → lines ≡ lines_for rule all → AreSquares top rule lines
valid-lines top rule root full states low all e lines f =
    let P : List Line → Type 0 = λ ls. AreSquares top rule ls in
    subst P (sym (f ∙ ap (lines_for rule) e))
    (valid-squares top rule _ (lines_for-valid top rule root low (full-depth root full) (states-below (largest_state rule) root states)))

-- a root that is its own trimmed form is the whole of what it says
pub whole-of : (top : ℕ) (rule : Rule) (generation : ℕ) {k : ℕ} {root : Tree} → HasDepth (suc k) root → suc k ≤ suc top → least_level rule ≤ suc k
    → trimmed_square root (least_level rule) ≡ root
    → whole (suc top) (square_universe rule generation root) ≡ root
whole-of top rule generation {k = k} {root = root} h low le fixed =
    let m = least_level rule in
    let n : suc top ≡ suc ((top - k) + k) = omega arith in
    whole-trimmed (suc top) (square_universe rule generation root)
    ∙ ap (λ j. trimmed_to (centred_square (tree_cell root) j) m) n
    ∙ centred-trimmed (tree_cell root) m (top - k) k (least-one rule) le (tree_cell-outside h)
    ∙ ap (λ t. trimmed_to t m) (centred-tree_cell h)
    ∙ sym (trimmed-is m h (least-one rule)) ∙ fixed

-- the canonical file of what the root says
pub file-of : (top : ℕ) (rule : Rule) (generation : ℕ) (root : Tree) → IsFull root → depth root ≤ suc top → least_level rule ≤ depth root
    → trimmed_square root (least_level rule) ≡ root
    → canonical_file (suc top) (square_universe rule generation root) ≡ square_file rule generation root
unfolding canonical_file
file-of top rule generation root full low le fixed =
    let d : depth root ≡ suc (depth root - 1) = omega (arith, least-one rule) in
    let h : HasDepth (suc (depth root - 1)) root = subst (λ n. HasDepth n root) d (full-depth root full) in
    ap (square_file rule generation) (whole-of top rule generation h (subst (λ n. n ≤ suc top) d low) (subst (λ n. least_level rule ≤ n) d le) fixed)

outside-up : (f : ℤ → ℤ → ℕ) (k top : ℕ) → suc k ≤ suc top → IsBlankOutside (suc k) f → IsBlankOutside (suc top) f
outside-up f k top l h = let n : suc ((top - k) + k) ≡ suc top = omega arith in subst (λ j. IsBlankOutside j f) n (outside-by f (top - k) k h)

-- no macrocell file of what the root says has fewer lines
pub root-least : (top : ℕ) (rule : Rule) (generation : ℕ) (root : Tree) → 3 ≤ suc top → IsFull root → HasStatesUpTo (largest_state rule) root
    → depth root ≤ suc top → least_level rule ≤ depth root
    → trimmed_square root (least_level rule) ≡ root
    → IsLeastLineCount (suc top) (square_universe rule generation root) (node_lines (square_file rule generation root))
unfolding canonical_file
root-least top rule generation root high full states low le fixed = λ bytes file says same rival.
    let d : depth root ≡ suc (depth root - 1) = omega (arith, least-one rule) in
    let h : HasDepth (suc (depth root - 1)) root = subst (λ n. HasDepth n root) d (full-depth root full) in
    let v = files_are_valid (suc top) bytes file says in
    let R : Rule → Type 0 = λ r. IsRule r in
    let plane : IsOnPlane (suc top) (square_universe rule generation root) = record {
      rule = subst R (sym same.rule) v.rule;
      generation = subst (λ n. n < 2 ^ 64) (sym same.generation) v.generation;
      states = λ x y. upto-below _ (largest_state rule)
          (tree_cell-below (state_bound rule) root (states-below (largest_state rule) root states) (omega arith) x y);
      outside = outside-up (tree_cell root) (depth root - 1) top (subst (λ n. n ≤ suc top) d low) (tree_cell-outside h);
    } in
    subst (λ w. length (square_file rule generation w).lines ≤ length file.lines)
    (whole-of top rule generation h (subst (λ n. n ≤ suc top) d low) (subst (λ n. least_level rule ≤ n) d le) fixed)
    (least top (square_universe rule generation root) file high plane v same rival)
