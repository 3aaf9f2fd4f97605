-- The cells of a pattern that was read into a store, and its text in RLE.
use Rattle.std.proofs.Common.{◌≡◌, ℕ, ◌<◌, ◌≤◌, true, List, length, ap, sym, ◌∙◌, subst, arith}
use Rattle.life_base.specs.declared.cell.Cell.{Cell}
use Rattle.life_base.specs.declared.cell.TheConstants.{MAX_LEVEL}
use Rattle.life_quad.specs.Cells.{IsCellList, population}
use Rattle.life_quad.specs.Store.{Nodes}
use Rattle.life_quad.proofs.LawLemmas.{known_squares_are_full, cells_are_listed, list_is_population}
use Rattle.life_rle.specs.Sorted.{are_sorted_cells}
use Rattle.life_rle.specs.Laws.{RleTextReadsBack}
use Rattle.life_rle.specs.Written.{rle_text}
use Rattle.life_pattern.specs.Universe.{Universe, IsOnPlane, rle_universe}
use Rattle.life_pattern.specs.Files.{Reads, as_rle}
use Rattle.life_writer.specs.Laws.{RleTextsAreFiles, RleTextsKeepPatterns}
use Rattle.life_pattern.specs.Store.{content, IsRead}
use Rattle.life_writer.specs.Texts.{AreCellsOf, FileHasMoreCells, IsRleOf}
use Rattle.life_pattern.specs.declared.pattern.Pattern.{Pattern}
use Rattle.life_writer.proofs.CellFacts.{cells-of, sorted-cells, listed-cells}
use Rattle.life_pattern.proofs.Fits.{read-same}
use Rattle.life_pattern.proofs.Formats.{reads-plane}
use Rattle.life_pattern.proofs.TreeWords.{below_top}
use Rattle.life_pattern.proofs.ReadFacts.{root-deep}

pub on-plane : (bytes : List ℕ) (u : Universe) → Reads MAX_LEVEL bytes u → IsOnPlane MAX_LEVEL u
on-plane bytes u r = reads-plane below_top bytes u (omega arith) r

pub cells-read : (bytes : List ℕ) (store : Nodes) (pattern : Pattern) (r : IsRead MAX_LEVEL bytes store pattern) (cells : List Cell)
    → IsCellList (content store pattern.root) cells
    → AreCellsOf r.universe.cell cells
cells-read bytes store pattern r cells h = cells-of r.universe.cell (content store pattern.root) cells (read-same bytes store pattern r).cells h

pub cells-sorted : (bytes : List ℕ) (store : Nodes) (pattern : Pattern) → IsRead MAX_LEVEL bytes store pattern → (cells : List Cell)
    → IsCellList (content store pattern.root) cells
    → are_sorted_cells MAX_LEVEL pattern.rule cells ≡ true
cells-sorted bytes store pattern r cells h =
    subst (λ q. are_sorted_cells MAX_LEVEL q cells ≡ true) (sym r.is.rule)
    (sorted-cells below_top r.universe cells (on-plane bytes r.universe r.reads) (cells-read bytes store pattern r cells h))

rle-is : (bytes : List ℕ) (store : Nodes) (pattern : Pattern) (r : IsRead MAX_LEVEL bytes store pattern) (cells : List Cell) (text : List ℕ)
    → text ≡ rle_text pattern.rule pattern.generation cells → text ≡ rle_text r.universe.rule r.universe.generation cells
rle-is bytes store pattern r cells text e = e ∙ ap (λ q. rle_text q pattern.generation cells) r.is.rule
    ∙ ap (λ g. rle_text r.universe.rule g cells) r.is.generation

pub is-rle : (bytes : List ℕ) (store : Nodes) (pattern : Pattern) → IsRead MAX_LEVEL bytes store pattern → (cells : List Cell)
    → IsCellList (content store pattern.root) cells → (most : ℕ) → length cells ≤ most
    → (text : List ℕ) → text ≡ rle_text pattern.rule pattern.generation cells → IsRleOf MAX_LEVEL most bytes text
is-rle bytes store pattern r cells h most few text e = record {
  universe = r.universe;
  reads = r.reads;
  cells = cells;
  are = cells-read bytes store pattern r cells h;
  few = few;
  is = rle-is bytes store pattern r cells text e;
}

-- the text of the cells of a pattern is a file of it, and so the text of a file says what the file says
pub rle_texts_are_files : RleTextReadsBack → RleTextsAreFiles MAX_LEVEL
rle_texts_are_files law = λ u cells h are.
    let back = law u.rule u.generation cells h.rule h.generation (sorted-cells below_top u cells h are) in
    (back.0, back.1, record { rule = sym back.2; generation = sym back.3; cells = λ x y. listed-cells u.cell cells are x y ∙ sym (back.4 x y) })

pub rle_texts_keep_patterns : RleTextReadsBack → RleTextsKeepPatterns MAX_LEVEL
rle_texts_keep_patterns law = λ most bytes text h.
    let u = h.universe in
    let file = rle_texts_are_files law u h.cells (on-plane bytes u h.reads) h.are in
    record {
      first = u;
      second = rle_universe file.0;
      reads_first = h.reads;
      reads_second = subst (λ t. Reads MAX_LEVEL t (rle_universe file.0)) (sym h.is) (as_rle file.0 file.1);
      same = file.2;
    }

-- the list of the root's cells
pub root-cells : (bytes : List ℕ) (store : Nodes) (pattern : Pattern) → IsRead MAX_LEVEL bytes store pattern
    → (cells : List Cell) × IsCellList (content store pattern.root) cells × (length cells ≡ population (content store pattern.root))
root-cells bytes store pattern r =
    let t = content store pattern.root in
    let full = (known_squares_are_full store pattern.root r.is.known.0).0 in
    let high = root-deep bytes store pattern r in
    let list = cells_are_listed t full high in
    (list.0, list.1, list_is_population t list.0 full high list.1)

pub more-cells : (bytes : List ℕ) (store : Nodes) (pattern : Pattern) → IsRead MAX_LEVEL bytes store pattern → (most : ℕ)
    → most < population (content store pattern.root) → FileHasMoreCells MAX_LEVEL bytes most
more-cells bytes store pattern r most more =
    let list = root-cells bytes store pattern r in
    (list.0, record { universe = r.universe; reads = r.reads; are = cells-read bytes store pattern r list.0 list.1 }, subst (λ n. most < n) (sym list.2) more)
