-- The laws of the definitions.
use Rattle.std.specs.Prelude.{◌≡◌, ◌↔◌, ℕ, ◌+◌, ◌^◌, ◌<◌, ◌≤◌, true, false, List, [], ◌∷◌, ◌++◌, length, map, take, drop, flat_map, codes, ℤ, Some}
use Rattle.std.specs.List.{slice_index_or}
use Rattle.life_base.specs.declared.kind.Kind.{Kind}
use Rattle.life_base.specs.declared.fault.Fault.{Fault}
use Rattle.life_base.specs.Refusal.{Prefix, is_placeless}
use Rattle.life_base.specs.declared.cell.Cell.{Cell}
use Rattle.life_base.specs.declared.cell.TheConstants.{MAX_LEVEL}
use Rattle.life_base.specs.declared.rule.Rule.{Rule}
use Rattle.life_base.specs.Text.{lines_of}
use Rattle.life_base.specs.Rules.{IsRule}
use Rattle.life_rle.specs.States.{leading_state, state_text, is_state_of}
use Rattle.life_rle.specs.Pattern.{Rle, rle_cell}
use Rattle.life_rle.specs.Grammar.{IsRle, IsSomeRle, BreaksRle, is_rle_kind}
use Rattle.life_rle.specs.File.{RefusesRle}
use Rattle.life_rle.specs.Written.{item_text, items_of, rle_lines, rle_text}
use Rattle.life_rle.specs.Sorted.{are_sorted_cells, state_in_cells}

-- lines are an RLE file of at most one pattern
abbrev pub IsOneRle : Type 0
IsOneRle = (level : ℕ) (lines : List (List ℕ)) (f g : Rle) → IsRle level lines f → IsRle level lines g → f ≡ g

-- every file of a plane is a file of each wider one, and is the same pattern there
abbrev pub WiderPlanesKeepRles : Type 0
WiderPlanesKeepRles = (level wider : ℕ) (lines : List (List ℕ)) (file : Rle) → level ≤ wider → IsRle level lines file → IsRle wider lines file

-- a line that breaks a rule comes after a prefix of a file, breaks one kind first, and no lines after it make a file
abbrev pub BreaksForGood : Type 0
BreaksForGood =
    (level : ℕ) (prefix : List (List ℕ)) (line : List ℕ) (kind : Kind) → BreaksRle level prefix line kind
    → Prefix (IsSomeRle level) prefix
    × ((other : Kind) → BreaksRle level prefix line other → other ≡ kind)
    × ((more : List (List ℕ)) (file : Rle) → IsRle level ((prefix ++ line ∷ []) ++ more) file → ⊥)

-- no line breaks a rule after those before it
abbrev pub IsUnbrokenRle : ℕ → List (List ℕ) → Type 0
IsUnbrokenRle level lines = (k : ℕ) (kind : Kind) → k < length lines → BreaksRle level (take k lines) (slice_index_or lines k []) kind → ⊥

-- lines are a prefix of a file exactly if no line breaks a rule
abbrev pub RlePrefixesAreUnbroken : Type 0
RlePrefixesAreUnbroken = (level : ℕ) (lines : List (List ℕ)) → Prefix (IsSomeRle level) lines ↔ IsUnbrokenRle level lines

-- a line breaks a rule with one of the kinds of the format
abbrev pub RleLinesBreakByKinds : Type 0
RleLinesBreakByKinds = (level : ℕ) (prefix : List (List ℕ)) (line : List ℕ) (kind : Kind) → BreaksRle level prefix line kind → is_rle_kind kind ≡ true

-- and each of these kinds names its line
abbrev pub RleKindsNameLines : Type 0
RleKindsNameLines = (kind : Kind) → is_rle_kind kind ≡ true → is_placeless kind ≡ false

-- lines that are no file have one fault
abbrev pub RleFaultsAreUnique : Type 0
RleFaultsAreUnique = (level : ℕ) (lines : List (List ℕ)) (one other : Fault) → RefusesRle level lines one → RefusesRle level lines other → one ≡ other

-- the text of a state is read as that state, whatever follows
abbrev pub StatesReadBack : Type 0
StatesReadBack = (rule : Rule) (state : ℕ) (rest : List ℕ) → is_state_of rule state ≡ true → leading_state (state_text rule state ++ rest) ≡ Some (state, rest)

-- the text of sorted cells is a file of the rule, the generation and these cells, and 0 elsewhere
abbrev pub RleTextReadsBack : Type 0
RleTextReadsBack =
    (rule : Rule) (generation : ℕ) (cells : List Cell) → IsRule rule → generation < 2 ^ 64 → are_sorted_cells MAX_LEVEL rule cells ≡ true
    → (file : Rle) × IsRle MAX_LEVEL (lines_of (rle_text rule generation cells)) file × (file.rule ≡ rule) × (file.position.generation ≡ generation)
    × ((x y : ℤ) → rle_cell file x y ≡ state_in_cells cells x y)

-- The texts stand in groups, in their order, a group on each line: a line has at most 70 bytes, and the first text of the next
-- group would not have fitted on it.
abbrev pub IsWrapped : List (List (List ℕ)) → Type 0
IsWrapped [] = Unit {0}
IsWrapped (group ∷ []) = length (flat_map (λ text. text) group) ≤ 70
IsWrapped (group ∷ [] ∷ groups) = ⊥
IsWrapped (group ∷ (text ∷ texts) ∷ groups) =
    (length (flat_map (λ text. text) group) ≤ 70) × (70 < length (flat_map (λ text. text) group) + length text) × IsWrapped ((text ∷ texts) ∷ groups)

-- lines that are texts joined in such groups
pub record AreWrapped (texts lines : List (List ℕ)) : Type 0 where
  pub groups : List (List (List ℕ))
  pub order : flat_map (λ group. group) groups ≡ texts
  pub joined : lines ≡ map (λ group. flat_map (λ text. text) group) groups
  pub full : IsWrapped groups

-- after the two lines before the items of sorted cells and `!` are wrapped
abbrev pub WrappedGreedily : Type 0
WrappedGreedily =
    (rule : Rule) (generation : ℕ) (cells : List Cell) → are_sorted_cells MAX_LEVEL rule cells ≡ true
    → AreWrapped (map (item_text rule) (items_of cells) ++ codes "!" ∷ []) (drop 2 (rle_lines rule generation cells))
