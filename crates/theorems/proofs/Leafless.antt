-- A canonical text has no leaf lines under a name.
use Rattle.std.proofs.Common.{◌≡◌, ◌⊎◌, inl, inr, ℕ, zero, suc, ◌+◌, ◌≤◌, List, [], ◌∷◌, length, drop, map, count_by, Bool, true, false, cond, ◌&&◌, ◌||◌, refl, ap, ◌∙◌, sym, arith, Option, Some, None, slice_index, slice_get, filter_map}
use Rattle.std.specs.List.{list_any, list_all, cons_option}
use Rattle.std.proofs.lemmas.List.Sums.{sum_by-cons}
use Rattle.life_base.specs.Text.{lines_of, trim, is_digit_text, value_of, words_of}
use Rattle.life_base.specs.Tree.{Tree, point, quad}
use Rattle.life_base.specs.declared.rule.Rule.{Rule}
use Rattle.life_base.specs.declared.rule.Rule.TheVariants.{Life, Named}
use Rattle.life_mc.specs.Macrocell.{Macrocell}
use Rattle.life_mc.specs.Reading.{IsMacrocell, is_node_line, is_leaf, is_leaf_byte, leaf_bytes, quad_of_numbers, square_of_text, square_on, squares_of}
use Rattle.life_mc.specs.declared.line.Line.{Line}
use Rattle.life_mc.specs.declared.line.Line.TheVariants.{Leaf}
use Rattle.life_mc.proofs.NodeLines.{node_lines_counted}
use Rattle.life_pattern.specs.Universe.{Universe, is_life, least_level, whole}
use Rattle.life_writer.specs.Least.{HasNoLeaves}
use Rattle.life_writer.specs.Listing.{canonical_file, line_of, lines_for, listed_squares}
use Rattle.claims.specs.Counting.{has_leaves}
use Rattle.claims.specs.Rules.{Rule as ReportedRule, is_counting}
use Rattle.claims.proofs.RuleLaw.{rule_in}

-- none of the lines is a leaf
abbrev HasNone : List Line → Type 0
HasNone lines = (index : ℕ) (rows : List ℕ) → slice_get lines index ≡ Some (Leaf rows) → ⊥

-- ---- the canonical file

no_leaf : (name : List ℕ) (all squares : List Tree) → HasNone (map (line_of (Named name) all) squares)
no_leaf name all [] index rows e = cc
no_leaf name all (point state ∷ squares) zero rows e = cc
no_leaf name all (quad nw ne sw se ∷ squares) zero rows e = cc
no_leaf name all (square ∷ squares) (suc index) rows e = no_leaf name all squares index rows e

leafless : (u : Universe) → (is_life u.rule ≡ true) ⊎ HasNoLeaves (canonical_file 62 u)
unfolding canonical_file
leafless u = by u.rule
  where
    by : (rule : Rule) → (is_life rule ≡ true) ⊎ HasNone (lines_for rule (listed_squares (whole 62 u) (least_level rule)))
    by (Life life) = inl refl
    by (Named name) = let all = listed_squares (whole 62 u) (least_level (Named name)) in inr (no_leaf name all all)

-- ---- the text of a file

abbrev is_leaf_line : List ℕ → Bool
is_leaf_line line = is_node_line line && is_leaf_byte (slice_index (trim line) 0)

count_more : (line : List ℕ) (lines : List (List ℕ)) → count_by is_node_line (line ∷ lines) ≡ cond (is_node_line line) 1 0 + count_by is_node_line lines
count_more line lines = sum_by-cons (λ l. cond (is_node_line l) 1 0) line lines

-- a file has no more squares than node lines
at_most : (lines : List (List ℕ)) → length (filter_map square_on lines) ≤ count_by is_node_line lines
at_most [] = omega arith
at_most (line ∷ lines) =
    let h : length (filter_map square_on (line ∷ lines)) ≤ cond (is_node_line line) 1 0 + count_by is_node_line lines =
    by (is_node_line line) (square_of_text (trim line)) (at_most lines) in
    omega (arith, h, count_more line lines)
  where
    by : (node : Bool) (square : Option Line) → length (filter_map square_on lines) ≤ count_by is_node_line lines
        → length (cons_option (cond node square None) (filter_map square_on lines)) ≤ cond node 1 0 + count_by is_node_line lines
    by true None l = omega (arith, l)
    by true (Some line) l = omega (arith, l)
    by false square l = omega (arith, l)

-- where each node line gives a square, and none is a leaf, none is a leaf line
none_there : (lines : List (List ℕ)) → length (filter_map square_on lines) ≡ count_by is_node_line lines
    → HasNone (filter_map square_on lines) → list_any is_leaf_line lines ≡ false
none_there [] e never = refl
none_there (line ∷ lines) e never =
    by (is_node_line line) (is_leaf_byte (slice_index (trim line) 0)) (is_leaf (trim line))
    (cond (list_all is_digit_text (words_of (trim line))) (quad_of_numbers (map value_of (words_of (trim line)))) None) (at_most lines) (none_there lines)
    (e ∙ count_more line lines) never
  where
    by : (node first leaf : Bool) (quarters : Option Line) → length (filter_map square_on lines) ≤ count_by is_node_line lines
        → (length (filter_map square_on lines) ≡ count_by is_node_line lines → HasNone (filter_map square_on lines) → list_any is_leaf_line lines ≡ false)
        → length (cons_option (cond node (cond first (cond leaf (Some (Leaf (leaf_bytes (trim line)))) None) quarters) None) (filter_map square_on lines))
        ≡ cond node 1 0 + count_by is_node_line lines
        → HasNone
        (cons_option (cond node (cond first (cond leaf (Some (Leaf (leaf_bytes (trim line)))) None) quarters) None) (filter_map square_on lines))
        → ((node && first) || list_any is_leaf_line lines) ≡ false
    by true true true quarters l below f none = absurd (none 0 (leaf_bytes (trim line)) refl)
    by true true false quarters l below f none = absurd (omega (arith, f, l))
    by true false leaf None l below f none = absurd (omega (arith, f, l))
    by true false leaf (Some square) l below f none = below (omega (arith, f)) (λ index rows. none (suc index) rows)
    by false first leaf quarters l below f none = below (omega (arith, f)) none

no_leaf_lines : (bytes : List ℕ) (file : Macrocell) → IsMacrocell 62 bytes file → HasNoLeaves file → has_leaves bytes ≡ false
no_leaf_lines bytes file m none =
    at (lines_of bytes) (sym (ap length m.squares) ∙ node_lines_counted 62 bytes file m)
    (λ index rows e. none index rows (ap (λ (t : List Line). slice_get t index) m.squares ∙ e))
  where
    at : (lines : List (List ℕ)) → length (squares_of lines) ≡ count_by is_node_line (drop 1 lines)
        → HasNone (squares_of lines) → list_any is_leaf_line (drop 1 lines) ≡ false
    at [] e never = refl
    at (header ∷ lines) e never = none_there lines e never

-- ---- a canonical text

counted : (rule : Rule) → is_counting (rule_in rule) ≡ is_life rule
counted (Life life) = refl
counted (Named name) = refl

pub leaves_so : (text : List ℕ) (u : Universe) (rule : ReportedRule) → rule ≡ rule_in u.rule → IsMacrocell 62 text (canonical_file 62 u)
    → (is_counting rule ≡ true) ⊎ (has_leaves text ≡ false)
leaves_so text u rule e says = elim (leafless u) [
  | inl life ↦ inl (ap is_counting e ∙ counted u.rule ∙ life)
  | inr none ↦ inr (no_leaf_lines text (canonical_file 62 u) says none)
]
