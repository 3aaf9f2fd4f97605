-- How many cells of a file aren't 0 is what it is in the layer below.
use Rattle.std.proofs.Common.{◌≡◌, ℕ, ◌^◌, List, sym, subst, arith, ◌⊎◌, inl, inr, ℤ, Err}
use Rattle.life_base.specs.declared.cell.Cell.{Cell}
use Rattle.life_base.specs.declared.fault.Fault.{Fault}
use Rattle.life_base.specs.declared.kind.Kind.TheVariants.{TooManyCells}
use Rattle.life_pattern.specs.Store.{RefusesIn}
use Rattle.life_writer.specs.Texts.{AreCellsOf, IsRleOf, FileHasMoreCells as LayerMoreCells}
use Rattle.life_quad.specs.Store.{Nodes}
use Rattle.claims.specs.Pattern.{Pattern}
use Rattle.claims.specs.Files.{pattern_of, claimed_fault_of, IsShortage}
use Rattle.claims.specs.Generation.{AreClaimedCells, HasMoreClaimedCells, SaysMoreCells}
use Rattle.claims.proofs.CellLists.{never_more}
use Rattle.theorems.proofs.FileLaw.{files_agree, ok_of}
use Rattle.theorems.proofs.RefusalLaw.{refused_as}

pub same_cells : (c d : ℤ → ℤ → ℕ) (cells : List Cell) → c ≡ d → AreCellsOf d cells → AreClaimedCells c cells
same_cells c d cells e h =
    subst (λ (f : ℤ → ℤ → ℕ). AreClaimedCells f cells) (sym e) (record { in_order = h.in_order; true_cells = h.true_cells; all_cells = h.all_cells })

-- a file that is written in extended RLE has no more cells than that
pub few_cells : (bytes text : List ℕ) → IsRleOf 62 (2 ^ 20) bytes text → SaysMoreCells (2 ^ 20) bytes → ⊥
few_cells bytes text h more =
    let p = files_agree bytes h.universe h.reads in
    let cells : p.pattern.cell ≡ h.universe.cell = λ i x y. p.cells x y i in
    let e : more.0 ≡ p.pattern = ok_of (pattern_of bytes) more.0 p.pattern more.1 p.is in
    never_more p.pattern.cell h.cells (2 ^ 20) (same_cells p.pattern.cell h.universe.cell h.cells cells h.are) (λ more. omega (arith, more, h.few))
    (subst (λ (q : Pattern). HasMoreClaimedCells (2 ^ 20) q.cell) e more.2)

pub says_more : (bytes : List ℕ) → LayerMoreCells 62 bytes (2 ^ 20) → SaysMoreCells (2 ^ 20) bytes
says_more bytes h =
    let u = h.1.universe in
    let p = files_agree bytes u h.1.reads in
    let cells : p.pattern.cell ≡ u.cell = λ i x y. p.cells x y i in
    (p.pattern, p.is, (h.0, same_cells p.pattern.cell u.cell h.0 cells h.1.are, h.2))

-- why a file is not written in extended RLE
pub rle_refused_as : (bytes : List ℕ) (store : Nodes) (fault : Fault)
    → RefusesIn 62 bytes store fault ⊎ ((fault ≡ claimed_fault_of TooManyCells) × LayerMoreCells 62 bytes (2 ^ 20))
    → (pattern_of bytes ≡ Err fault) ⊎ (IsShortage fault ⊎ ((fault ≡ claimed_fault_of TooManyCells) × SaysMoreCells (2 ^ 20) bytes))
rle_refused_as bytes store fault (inl r) = elim (refused_as bytes store fault r) [ inl e ↦ inl e | inr w ↦ inr (inl w) ]
rle_refused_as bytes store fault (inr m) = inr (inr (m.0, says_more bytes m.1))
