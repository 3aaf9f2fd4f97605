-- A file that comes in pieces: which bytes are refused, and what a reader of them shows.
--
--     bytes:   line 1 \n line 2 \n .. line n \n | rest
--              taken, each as it ended            kept, at most 2^20 bytes
--
-- A line is refused in the piece in which it ends, and a rest in the piece in which it grows too long. After the line that holds `!`
-- all lines are free, and nothing is kept.
use Rattle.std.specs.Prelude.{◌≡◌, ℕ, ◌≤◌, ◌⊎◌, Bool, false, List, [], ◌∷◌, ◌++◌, length, Contains, Some}
use Rattle.life_base.specs.Lines.{whole_lines}
use Rattle.life_base.specs.declared.fault.Fault.{Fault}
use Rattle.life_base.specs.declared.kind.Kind.TheVariants.{LineTooLong}
use Rattle.life_quad.specs.Store.{Nodes}
use Rattle.life_quad.specs.declared.id.Id.{Id}
use Rattle.life_rle.specs.Grammar.{IsMarked}
use Rattle.life_rle.specs.Pattern.{Rle}
use Rattle.life_strip.specs.Strip.{id_at}
use Rattle.life_strip.specs.declared.plane.Plane.{Plane}
use Rattle.life_strip.specs.declared.row.Row.{Row}
use Rattle.life_strip.specs.declared.spans.Strip.{Strip}
use Rattle.life_pattern.specs.Files.{Refuses, is_macrocell}
use Rattle.life_pattern.specs.Store.{IsKnown, content}
use Rattle.life_reader.specs.Taking.{StandsFor}
use Rattle.life_reader.specs.Waiting.{IsQuarterOfOne}
use Rattle.life_reader.specs.declared.progress.Progress.{Progress}
use Rattle.life_reader.specs.declared.progress.Progress.TheVariants as progress

-- Why no file goes on from these bytes: a line that has ended breaks a rule, or the last one is too long already.
pub record RefusesPrefix (top : ℕ) (bytes : List ℕ) (fault : Fault) : Type 0 where
  pub refuses : Refuses top bytes fault
  pub reported : (refuses.n ≤ length (whole_lines bytes)) ⊎ (fault.kind ≡ LineTooLong)

-- the bytes are those of an RLE file, after the line that holds its `!`
abbrev pub IsOverAt : ℕ → List ℕ → Type 0
IsOverAt top bytes = (is_macrocell (whole_lines bytes) ≡ false) × ((file : Rle) × IsMarked top (whole_lines bytes) file)

-- what contracts see of a reader: the bytes that were fed, those that it keeps of the line that isn't whole, whether it has refused, and
-- what it has made of the lines that have ended
pub record Fed : Type 0 where
  pub bytes : List ℕ
  pub kept : List ℕ
  pub spent : Bool
  pub progress : Progress

-- Each Id that the reader keeps names the square that the bytes give it. This holds of a new reader in every store, after each call in
-- the store that was lent, and on while that store keeps the square of each Id.
abbrev pub Stands : Nodes → Fed → Type 0
Stands store fed = StandsFor (IsKnown store) (content store) fed.progress

-- the Id is that of a square in a column of one of these strips
abbrev pub IsInStrips : List Strip → Id → Type 0
IsInStrips strips id = (strip : Strip) × (column : ℕ) × Contains strips strip × (id_at strip.spans.items column ≡ Some id)

-- the Id is that of a cell in a column of one of these rows
abbrev pub IsInRows : List Row → Id → Type 0
IsInRows rows id = (row : Row) × (column : ℕ) × Contains rows row × (id_at row.spans.items column ≡ Some id)

-- the Id is kept of the plane: in one of its strips, or in a row below them
abbrev pub IsPlaneId : Plane → Id → Type 0
IsPlaneId p id = IsInStrips p.pile.strips.items id ⊎ IsInRows (p.pile.band.items ++ p.row ∷ []) id

-- the Ids that are kept of the lines so far: under RLE those of the squares that aren't part of a larger one yet, and else those of the node lines, and
-- those of the quarters where a line waits
abbrev pub IsKeptId : Progress → Id → Type 0
IsKeptId progress.Undecided id = ⊥
IsKeptId (progress.Rle reader builder runs) id = IsPlaneId builder.kept id
IsKeptId (progress.Macrocell reader ids waiting) id = Contains ids.items id ⊎ IsQuarterOfOne waiting.items id

-- each Id that the reader keeps names the square that it named
abbrev pub KeepsIdsOf : Fed → Nodes → Nodes → Type 0
KeepsIdsOf fed old new = (id : Id) → IsKeptId fed.progress id → IsKnown old id → IsKnown new id × (content new id ≡ content old id)
