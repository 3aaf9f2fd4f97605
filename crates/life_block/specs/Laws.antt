-- The next states of squares by any law of a cell and its neighbours: pieces of the plane whose cells have a property of their places.
use Rattle.std.specs.Prelude.{ℕ, ◌^◌, ◌<◌, ℤ, pos, ◌+ℤ◌, List}
use Rattle.life_base.specs.Tree.{Tree, point, quad, depth}
use Rattle.life_quad.specs.Memory.{Recalls}
use Rattle.life_quad.specs.declared.id.Id.{Id}
use Rattle.life_quad.specs.declared.memory.Slot.{Slot}
use Rattle.life_sweep.specs.Generation.{states_at}
use Rattle.life_table.specs.Meaning.{Answer, Becomes}
use Rattle.life_pieces.specs.Pieces.{Nine, IsOfLevel, InNine, AreNine, ids_of_nine}

-- each cell of the square, which begins in the column x and the row y, has a state that fits its place
abbrev pub IsPieceBy : (ℤ → ℤ → ℕ → Type 0) → ℤ → ℤ → Tree → Type 0
IsPieceBy Fits x y (point s) = Fits x y s
IsPieceBy Fits x y (quad nw ne sw se) =
    IsPieceBy Fits x y nw × IsPieceBy Fits (x +ℤ pos (2 ^ depth nw)) y ne × IsPieceBy Fits x (y +ℤ pos (2 ^ depth nw)) sw
    × IsPieceBy Fits (x +ℤ pos (2 ^ depth nw)) (y +ℤ pos (2 ^ depth nw)) se

-- the law has the state of a place, and answers that the place becomes this one
pub record IsNextAt (answers : List ℕ → Answer → Type 0) (bound : ℕ) (cells : ℤ → ℤ → ℕ) (x y : ℤ) (next : ℕ) : Type 0 where
  pub below : cells x y < bound
  pub answer : answers (states_at cells x y) (Becomes next)

-- the square has the next states of the one amid the nine, wherever on a plane these are
abbrev pub IsNextOfNine : (List ℕ → Answer → Type 0) → ℕ → (Id → Tree) → ℕ → Nine → Tree → Type 0
IsNextOfNine answers bound content level nine next =
    (cells : ℤ → ℤ → ℕ) (x y : ℤ) → AreNine content cells (2 ^ level) x y nine → IsPieceBy (IsNextAt answers bound cells) x y next

-- A store from which squares are read, one in which their next states are, and the law.
module _ (knows : Id → Type 0) (content : Id → Tree) (knows_next : Id → Type 0) (next : Id → Tree) (answers : List ℕ → Answer → Type 0) (bound : ℕ) where
  -- known squares of one level, and one of that level with the next states of the one amid them
  pub record IsAnswerBy (nine : Nine) (answer : Id) : Type 0 where
    pub level : ℕ
    pub known : InNine (IsOfLevel knows content level) nine
    pub at : IsOfLevel knows_next next level answer
    pub right : IsNextOfNine answers bound content level nine (next answer)

  -- each answer that is remembered is right
  pub record RemembersBy (memory : List Slot) : Type 0 where
    pub answers_by : (nine : Nine) (answer : Id) → Recalls memory (ids_of_nine nine) answer → IsAnswerBy nine answer
