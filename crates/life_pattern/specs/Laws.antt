-- The laws of files and of the patterns that were read from them.
use Rattle.std.specs.Prelude.{◌≡◌, ◌↔◌, ℕ, ◌≤◌, true, ℤ, List}
use Rattle.life_base.specs.Tree.{Tree, depth, tree_cell, IsFull}
use Rattle.life_base.specs.declared.fault.Fault.{Fault}
use Rattle.life_mc.specs.Macrocell.{Macrocell}
use Rattle.life_mc.specs.Reading.{AreMacrocell}
use Rattle.life_rle.specs.Pattern.{Rle}
use Rattle.life_rle.specs.Grammar.{IsRle}
use Rattle.life_pattern.specs.Universe.{Universe, IsSame, IsBlankOutside, IsOnPlane, centred_square}
use Rattle.life_pattern.specs.Files.{Says, Reads, Same, RefusesLines, is_file_kind}
use Rattle.life_pattern.specs.Store.{Keeps, IsRead, IsTrimmed, universe_in}
use Rattle.life_pattern.specs.declared.pattern.Pattern.{Pattern}
use Rattle.life_quad.specs.Store.{Nodes}

-- no lines are a file of both formats
abbrev pub FormatsDiffer : ℕ → Type 0
FormatsDiffer top = (lines : List (List ℕ)) (file : Macrocell) (other : Rle) → AreMacrocell top lines file → IsRle top lines other → ⊥

-- a file says one thing
abbrev pub FilesAreUnique : ℕ → Type 0
FilesAreUnique top = (lines : List (List ℕ)) (u v : Universe) → Says top lines u → Says top lines v → u ≡ v

-- every cell outside the plane has state 0
abbrev pub BlankOutside : ℕ → Type 0
BlankOutside top = (bytes : List ℕ) (u : Universe) → Reads top bytes u → IsBlankOutside top u.cell

-- lines that are no file have one fault
abbrev pub FaultsAreUnique : ℕ → Type 0
FaultsAreUnique top = (lines : List (List ℕ)) (a b : Fault) → RefusesLines top lines a → RefusesLines top lines b → a ≡ b

-- what a file says fits the plane
abbrev pub FilesAreOnPlane : ℕ → Type 0
FilesAreOnPlane top = (bytes : List ℕ) (u : Universe) → Reads top bytes u → IsOnPlane top u

-- a refusal of a file has one of the kinds of files, and names a line
abbrev pub RefusalsHaveKinds : ℕ → Type 0
RefusalsHaveKinds top = (lines : List (List ℕ)) (fault : Fault) → RefusesLines top lines fault → (is_file_kind fault.kind ≡ true) × (1 ≤ fault.place.line)

-- a full square of level 1 or more is the square about (0, 0) of its own cells, and every cell outside has state 0
abbrev pub SquaresAreCentred : Type 0
SquaresAreCentred = (t : Tree) → IsFull t → 1 ≤ depth t → (centred_square (tree_cell t) (depth t) ≡ t) × IsBlankOutside (depth t) (tree_cell t)

-- planes that are blank outside the squares of one level about (0, 0) have the same cells, if these squares are equal
abbrev pub CentredSquaresTellCells : Type 0
CentredSquaresTellCells =
    (level : ℕ) (f g : ℤ → ℤ → ℕ) → IsBlankOutside level f → IsBlankOutside level g → centred_square f level ≡ centred_square g level → (x y : ℤ) → f x y
    ≡ g x y

-- a pattern that was read may be numbered, and has the cells of the file
abbrev pub PatternsFit : ℕ → Type 0
PatternsFit top =
    (bytes : List ℕ) (store : Nodes) (pattern : Pattern) (read : IsRead top bytes store pattern) → IsTrimmed store pattern
    × IsSame read.universe (universe_in store pattern)

-- what was read into a store stays read while the store keeps its squares
abbrev pub PatternsStay : ℕ → Type 0
PatternsStay top = (bytes : List ℕ) (old new : Nodes) (pattern : Pattern) → Keeps old new → IsRead top bytes old pattern → IsRead top bytes new pattern

-- Two patterns that were read into one store have one rule, one generation and one root exactly if their files are the same pattern.
abbrev pub PatternsTellFiles : ℕ → Type 0
PatternsTellFiles top =
    (first second : List ℕ) (store : Nodes) (a b : Pattern) → IsRead top first store a → IsRead top second store b
    → ((a.rule ≡ b.rule) × (a.generation ≡ b.generation) × (a.root ≡ b.root)) ↔ Same top first second
