-- What is counted in the text of a macrocell file, and with which texts a canonical one is compared. All of it is this project's own.
use Rattle.std.specs.Prelude.{◌≡◌, ◌⊎◌, ◌≤◌, ℕ, Bool, true, false, not, ◌&&◌, List, drop, count_by, slice_index, codes}
use Rattle.std.specs.List.{list_any}
use Rattle.life_base.specs.Text.{lines_of, is_blank, begins_with, trim}
use Rattle.claims.specs.Rules.{is_counting}
use Rattle.claims.specs.Macrocell.{is_claimed_leaf_byte}
use Rattle.claims.specs.Files.{SayOnePattern}
use Rattle.claims.specs.Canonical.{IsTextOfPattern}

-- a line that is neither blank nor begins with `#`; those after the first are node lines
abbrev pub is_claimed_node_line : List ℕ → Bool
is_claimed_node_line line = not (is_blank line) && not (begins_with line (codes "#"))

abbrev pub claimed_node_lines : List ℕ → ℕ
claimed_node_lines bytes = count_by is_claimed_node_line (drop 1 (lines_of bytes))

-- some node line is a leaf line
abbrev pub has_leaves : List ℕ → Bool
has_leaves bytes = list_any (λ line. is_claimed_node_line line && is_claimed_leaf_byte (slice_index (trim line) 0)) (drop 1 (lines_of bytes))

-- A file with which a canonical text is compared: a macrocell file of the same pattern, under a name one without leaf lines. A higher root, mixed levels,
-- repeats and squares that the root doesn't reach are allowed.
pub record IsClaimedRival (file rival : List ℕ) : Type 0 where
  pub same : SayOnePattern file rival
  pub format : begins_with rival (codes "[M2]") ≡ true
  pub leaves : (is_counting same.second.rule ≡ true) ⊎ (has_leaves rival ≡ false)

-- the text is the canonical text of the file's pattern; it is a rival itself, and no rival has fewer node lines
pub record IsCanonicalText (file text : List ℕ) : Type 0 where
  pub rival : IsClaimedRival file text
  pub is : IsTextOfPattern rival.same.first text
  pub least : (other : List ℕ) → IsClaimedRival file other → claimed_node_lines text ≤ claimed_node_lines other
