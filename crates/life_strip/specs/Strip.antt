-- Strips: rows of squares of one level, side by side.
use Rattle.life_base.specs.declared.cell.TheConstants.{MAX_LEVEL}
use Rattle.std.specs.Prelude.{◌≡◌, ℕ, suc, ◌+◌, ◌-◌, ◌*◌, ◌^◌, ◌<◌, ◌≤◌, nat_lt, nat_le, if◌then◌else◌, List, [], ◌∷◌, drop, All, AllPairs, Option, Some, None, length, get_or}
use Rattle.life_quad.specs.declared.id.Id.{Id}
use Rattle.life_quad.specs.declared.moves.Quarters.{Quarters}
use Rattle.life_base.specs.Tree.{Tree, quad, depth, blank}
use Rattle.life_strip.specs.declared.single.Columns.{Columns}
use Rattle.life_strip.specs.declared.spans.Span.{Span}
use Rattle.life_strip.specs.declared.spans.StripPlace.{StripPlace}
use Rattle.life_strip.specs.declared.spans.TheConstants.{NEVER}

-- the Id in a column: that of the first span that ends after it, if this has begun there
abbrev pub id_at : List Span → ℕ → Option Id
id_at [] column = None
id_at (s ∷ rest) column = if nat_lt column s.end then (if nat_le s.start column then Some s.square else None) else id_at rest column

-- the square of a level for an Id, blank where there is none
abbrev pub square_or_blank : (Id → Tree) → ℕ → Option Id → Tree
square_or_blank content level None = blank level
square_or_blank content level (Some id) = content id

-- the square in a column of a strip
abbrev pub square_at : (Id → Tree) → ℕ → List Span → ℕ → Tree
square_at content level spans column = square_or_blank content level (id_at spans column)

-- each column has a square of the level that the store knows
abbrev pub IsStrip : (Id → Type 0) → (Id → Tree) → ℕ → List Span → Type 0
IsStrip knows content level spans = (column : ℕ) (id : Id) → id_at spans column ≡ Some id → knows id × (depth (content id) ≡ level)

-- each span has a column
abbrev pub HaveColumns : List Span → Type 0
HaveColumns spans = All (λ s. s.start < s.end) spans

-- each span has a column, and only such before this one
abbrev pub AreBefore : ℕ → List Span → Type 0
AreBefore column spans = All (λ s. (s.start < s.end) × (s.end ≤ column)) spans

-- no span of squares of this level ends beyond the plane
abbrev pub AreWithin : ℕ → List Span → Type 0
AreWithin level spans = AreBefore (2 ^ (MAX_LEVEL - level)) spans

-- each span ends before the next one begins, or where it does
abbrev pub Rise : List Span → Type 0
Rise spans = AllPairs (λ s t. s.end ≤ t.start) spans

-- the columns before this one have the squares of the level that are wanted, and the others none
pub record FilledTo (knows : Id → Type 0) (content : Id → Tree) (level : ℕ) (want : ℕ → Tree) (spans : List Span) (column : ℕ) : Type 0 where
  pub before : AreBefore column spans
  pub rises : Rise spans
  pub strip : IsStrip knows content level spans
  pub done : (c : ℕ) → c < column → square_at content level spans c ≡ want c

-- from a column on one square goes on to an end
pub record IsExtended (old new : List Span) (column end : ℕ) (square : Id) : Type 0 where
  pub before : AreBefore end new
  pub rises : Rise old → Rise new
  pub earlier : (c : ℕ) → c < column → id_at new c ≡ id_at old c
  pub more : (c : ℕ) → column ≤ c → c < end → id_at new c ≡ Some square

-- the square of two columns of two strips, one above the other
abbrev pub quad_at : (Id → Tree) → ℕ → List Span → List Span → ℕ → Tree
quad_at content level upper lower column =
    quad (square_at content level upper (2 * column)) (square_at content level upper (2 * column + 1))
    (square_at content level lower (2 * column)) (square_at content level lower (2 * column + 1))

-- the columns of the next level that have columns of a span
pub record HasSpan (columns : Columns) (span : Span) : Type 0 where
  pub from : 2 * columns.start ≤ span.start
  pub begun : span.start ≤ 2 * columns.start + 1
  pub to : span.end ≤ 2 * columns.end
  pub ended : 2 * columns.end ≤ span.end + 1
  pub some : columns.start < columns.end

-- The strip has one span at most, and that is in the columns of these columns of the next level. If they are several columns, the span fills them.
pub record IsOnly (spans : List Span) (columns : Columns) : Type 0 where
  pub few : length spans ≤ 1
  pub there : All (λ s. (2 * columns.start ≤ s.start) × (s.end ≤ 2 * columns.end)) spans
  pub filled : columns.start + 1 < columns.end → All (λ s. (s.start ≤ 2 * columns.start) × (2 * columns.end ≤ s.end)) spans

-- these columns of the next level have all squares of two strips, which aren't both blank, and one square each
pub record AreOnlyColumns (upper lower : List Span) (columns : Columns) : Type 0 where
  pub above : IsOnly upper columns
  pub below : IsOnly lower columns
  pub some : columns.start < columns.end
  pub within : (side : ℕ) → AreBefore side upper → AreBefore side lower → 2 * columns.end ≤ side + 1

-- each column of a strip of the next level has the four squares of the two strips
abbrev pub IsPaired : (Id → Tree) → (Id → Tree) → ℕ → List Span → List Span → List Span → Type 0
IsPaired old new level upper lower spans = (column : ℕ) → square_at new (suc level) spans column ≡ quad_at old level upper lower column

-- the spans from an index on have every column from this one on
abbrev pub IsPast : List Span → ℕ → ℕ → Type 0
IsPast spans index column = (c : ℕ) → column ≤ c → id_at spans c ≡ id_at (drop index spans) c

-- the span at an index, if there is one, ends after the column
abbrev pub EndsAfter : List Span → ℕ → ℕ → Type 0
EndsAfter spans index column = (d : Span) → index < length spans → column < (get_or spans index d).end

-- the Id, or that of the blank square
abbrev pub id_or : Id → Option Id → Id
id_or blank None = blank
id_or blank (Some id) = id

-- Seen from the column, where a strip stands: no span has a column from there to before the start, and one square has those from the start to
-- before the end, where the span at the index ends. Where no span is left, both are beyond every column.
pub record IsAt (spans : List Span) (column : ℕ) (place : StripPlace) : Type 0 where
  pub past : IsPast spans place.index column
  pub from : column ≤ place.start
  pub beyond : column < place.end
  pub none : (c : ℕ) → column ≤ c → c < place.start → id_at spans c ≡ None
  pub some : (c : ℕ) → place.start ≤ c → c < place.end → id_at spans c ≡ Some place.square
  pub span : (d : Span) → place.index < length spans → place.end ≡ (get_or spans place.index d).end
  pub over : length spans ≤ place.index → place.end ≡ NEVER
  pub order : place.start ≤ place.end
  pub within : (side : ℕ) → AreBefore side spans → place.start < NEVER → (place.start < place.end) × (place.end ≤ side)

-- the square in a column before the end of a place
abbrev pub square_in : StripPlace → Id → ℕ → Id
square_in place blank column = if nat_le place.start column then place.square else blank

-- the column up to which it goes on
abbrev pub goes_to : StripPlace → ℕ → ℕ
goes_to place column = if nat_le place.start column then place.end else place.start

-- A span of equal squares that are not joined yet. Their quarters can be joined (`Can`), and in each column of the span the square that they make
-- (`square`) is the wanted one. From the given column to the span's start nothing is wanted (`none`), and the span ends within the plane.
pub record IsStripPiece (Can : Quarters → Type 0) (square : Quarters → Tree) (want : ℕ → Tree) (none : Tree) (side column : ℕ) (span : Span)
    (quarters : Quarters) :
    Type 0 where
  pub can : Can quarters
  pub from : column ≤ span.start
  pub some : span.start < span.end
  pub within : span.end ≤ side
  pub gap : (c : ℕ) → column ≤ c → c < span.start → want c ≡ none
  pub goes : (c : ℕ) → span.start ≤ c → c < span.end → want c ≡ square quarters

-- such squares side by side from one column to another one
abbrev pub ArePieces : (Quarters → Type 0) → (Quarters → Tree) → (ℕ → Tree) → Tree → ℕ → ℕ → List Span → List Quarters → ℕ → Type 0
ArePieces Can square want none side column [] [] next = next ≡ column
ArePieces Can square want none side column [] (q ∷ quarters) next = ⊥
ArePieces Can square want none side column (s ∷ spans) [] next = ⊥
ArePieces Can square want none side column (s ∷ spans) (q ∷ quarters) next =
    IsStripPiece Can square want none side column s q × ArePieces Can square want none side s.end spans quarters next

-- the spans with other squares
abbrev pub with_squares : List Span → List Id → List Span
with_squares [] squares = []
with_squares (s ∷ spans) [] = []
with_squares (s ∷ spans) (id ∷ squares) = record { start = s.start; end = s.end; square = id } ∷ with_squares spans squares

-- Where a walk along two strips is: before the column all is done, and no column of the level is beyond the plane.
pub record IsWalk (level : ℕ) (upper lower : List Span) (column : ℕ) (north south : StripPlace) : Type 0 where
  pub upper_place : IsAt upper (2 * column) north
  pub lower_place : IsAt lower (2 * column) south
  pub within : column ≤ 2 ^ (MAX_LEVEL - suc level)
