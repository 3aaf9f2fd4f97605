-- Squares of which the same part is seen, and tables that find them.
use Rattle.std.specs.Prelude.{◌≡◌, ℕ, ◌^◌, ◌%◌, ◌≤◌, ◌<◌, Bool, true, false, Contains}
use Rattle.life_base.specs.Tree.{Tree, quad, depth, state_at}
use Rattle.life_quad.specs.declared.id.Id.{Id}
use Rattle.life_quad.specs.declared.moves.Quarters.{Quarters}
use Rattle.life_slide.specs.Margins.{AreMargins}
use Rattle.life_slide.specs.declared.parts.Parts.{Parts}
use Rattle.life_slide.specs.declared.seen.Views.{Views}
use Rattle.life_slide.specs.declared.sides.Side.{Side}
use Rattle.life_slide.specs.declared.sides.Side.TheVariants.{All, From, Until, Nothing}
use Rattle.life_slide.specs.declared.table.Key.{Key}
use Rattle.life_slide.specs.declared.table.Table.{Table}

-- the square that was put for a key
abbrev pub TableGives : Table → Key → Id → Type 0
TableGives table key answer = Contains table.entries.entries (key, answer)

-- the key of four squares
abbrev pub key_of_quarters : Side → Side → Quarters → Key
key_of_quarters columns rows q = record { columns = columns; rows = rows; nw = q.nw; ne = q.ne; sw = q.sw; se = q.se }

-- what is seen in the first and in the second half, where the other square begins in the later half or not
abbrev pub first_side : Side → Bool → Side
first_side All later = All
first_side From true = Nothing
first_side From false = From
first_side Until true = All
first_side Until false = Until
first_side Nothing later = Nothing

abbrev pub second_side : Side → Bool → Side
second_side All later = All
second_side From true = From
second_side From false = All
second_side Until true = Until
second_side Until false = Nothing
second_side Nothing later = Nothing

-- of a side's columns or rows, counted from 0, the one with this number is seen
abbrev pub IsSeenOn : Side → (offset i : ℕ) → Type 0
IsSeenOn All offset i = i ≡ i
IsSeenOn From offset i = offset ≤ i
IsSeenOn Until offset i = i < offset
IsSeenOn Nothing offset i = i < i

-- two squares of one level have the same cells in the columns and rows that are seen
pub record AreAlike (columns rows : ℕ) (east south : Side) (t u : Tree) : Type 0 where
  pub level : depth u ≡ depth t
  pub same : (i j : ℕ) → i < 2 ^ depth t → j < 2 ^ depth t → IsSeenOn east (columns % 2 ^ depth t) i → IsSeenOn south (rows % 2 ^ depth t) j
      → state_at t i j ≡ state_at u i j

module _ (knows : Id → Type 0) (content : Id → Tree) (columns rows : ℕ) where
  -- a known square, of which the same is seen as of a square
  pub record IsLike (east south : Side) (t : Tree) (id : Id) : Type 0 where
    pub known : knows id
    pub alike : AreAlike columns rows east south t (content id)

  -- by a square the table has only such squares
  abbrev pub AreFirstsBySquare : Table → Type 0
  AreFirstsBySquare table = (east south : Side) (id first : Id)
      → TableGives table (key_of_quarters east south (record { nw = id; ne = id; sw = id; se = id })) first → IsLike east south (content id) first

  -- by four squares it has only such squares as of the square of the four
  abbrev pub AreFirstsByFour : Table → Type 0
  AreFirstsByFour table = (east south : Side) (q : Quarters) (first : Id) → TableGives table (key_of_quarters east south q) first
      → IsLike east south (quad (content q.nw) (content q.ne) (content q.sw) (content q.se)) first

  pub record ArePartsOf (parts : Parts) : Type 0 where
    pub known : AreFirstsBySquare parts.known
    pub firsts : AreFirstsByFour parts.firsts

  -- what is known of the squares that were visited is right
  pub record AreViews (views : Views) : Type 0 where
    pub margins : AreMargins content views.margins
    pub parts : ArePartsOf views.parts
