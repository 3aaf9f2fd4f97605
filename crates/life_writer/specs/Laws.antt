-- The laws of files, of canonical texts and of canonical files.
use Rattle.std.specs.Prelude.{◌≡◌, ◌↔◌, ℕ, ◌≤◌, List}
use Rattle.life_base.specs.Text.{lines_of}
use Rattle.life_base.specs.declared.cell.Cell.{Cell}
use Rattle.life_mc.specs.Macrocell.{Macrocell}
use Rattle.life_mc.specs.Cells.{node_lines}
use Rattle.life_mc.specs.Reading.{IsMacrocell}
use Rattle.life_rle.specs.Pattern.{Rle}
use Rattle.life_rle.specs.Grammar.{IsRle}
use Rattle.life_rle.specs.Written.{rle_text}
use Rattle.life_pattern.specs.Universe.{Universe, IsSame, IsOnPlane, macrocell_universe, rle_universe}
use Rattle.life_pattern.specs.Files.{Reads, Same}
use Rattle.life_writer.specs.Listing.{canonical_file, canon_text}
use Rattle.life_writer.specs.Least.{IsRival, IsLeastLineCount, SquaresHaveNodeLines}
use Rattle.life_writer.specs.Texts.{AreCellsOf, IsRleOf}

-- the canonical text of a pattern is a macrocell file of the same pattern
abbrev pub TextsAreFiles : ℕ → Type 0
TextsAreFiles top =
    (u : Universe) → IsOnPlane top u → IsMacrocell top (canon_text top u) (canonical_file top u) × IsSame u (macrocell_universe (canonical_file top u))

-- the canonical text of a file is the same pattern as the file
abbrev pub TextsKeepPatterns : ℕ → Type 0
TextsKeepPatterns top = (a : List ℕ) (u : Universe) → Reads top a u → Same top a (canon_text top u)

-- the text in extended RLE of the cells of a pattern is an RLE file of the same pattern
abbrev pub RleTextsAreFiles : ℕ → Type 0
RleTextsAreFiles top =
    (u : Universe) (cells : List Cell) → IsOnPlane top u → AreCellsOf u.cell cells
    → (file : Rle) × IsRle top (lines_of (rle_text u.rule u.generation cells)) file × IsSame u (rle_universe file)

-- the text in extended RLE of a file is the same pattern as the file
abbrev pub RleTextsKeepPatterns : ℕ → Type 0
RleTextsKeepPatterns top = (most : ℕ) (bytes text : List ℕ) → IsRleOf top most bytes text → Same top bytes text

-- two patterns have one canonical text exactly if they are the same
abbrev pub TextsTellUniverses : ℕ → Type 0
TextsTellUniverses top = (u v : Universe) → IsOnPlane top u → IsOnPlane top v → (canon_text top u ≡ canon_text top v) ↔ IsSame u v

-- two files have one canonical text exactly if they are the same pattern
abbrev pub TextsTellPatterns : ℕ → Type 0
TextsTellPatterns top =
    (a b : List ℕ) (u v : Universe) → Reads top a u → Reads top b v → (canon_text top u ≡ canon_text top v) ↔ Same top a b

-- the canonical text of a canonical text is itself
abbrev pub TextsAreFixed : ℕ → Type 0
TextsAreFixed top = (u v : Universe) → IsOnPlane top u → Reads top (canon_text top u) v → canon_text top v ≡ canon_text top u

-- no macrocell file of the same pattern, under a name none without leaf lines, has fewer node lines than the canonical one
abbrev pub CanonicalIsLeast : ℕ → Type 0
CanonicalIsLeast top = (u : Universe) → IsOnPlane top u → IsLeastLineCount top u (node_lines (canonical_file top u))

-- the squares of the canonical list have node lines in every macrocell file of the pattern, under a name in every one without leaf lines, and no
-- two of them have one line
abbrev pub SquaresHavePlaces : ℕ → Type 0
SquaresHavePlaces top =
    (u : Universe) (b : List ℕ) (file : Macrocell) → IsOnPlane top u → IsMacrocell top b file → IsSame u (macrocell_universe file) → IsRival file
    → SquaresHaveNodeLines top u file

-- on every wider plane, up to level 62, a pattern has the same canonical text, and that text is accepted and says the same there
abbrev pub WiderPlaneKeepsTexts : Type 0
WiderPlaneKeepsTexts =
    (top wider : ℕ) (u : Universe) → 3 ≤ top → top ≤ wider → wider ≤ 62 → IsOnPlane top u
    → (canon_text wider u ≡ canon_text top u) × IsMacrocell wider (canon_text top u) (canonical_file top u)

-- every file of a plane is a file of each wider one, up to level 62, and says the same there; its canonical text is the same too
abbrev pub WiderPlanesKeepFiles : Type 0
WiderPlanesKeepFiles =
    (top wider : ℕ) (bytes : List ℕ) (u : Universe) → 3 ≤ top → top ≤ wider → wider ≤ 62 → Reads top bytes u
    → Reads wider bytes u × (canon_text wider u ≡ canon_text top u)
