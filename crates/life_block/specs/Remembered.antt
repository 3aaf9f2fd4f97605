-- What is remembered of the next states of squares.
use Rattle.std.specs.Prelude.{ℕ, ◌^◌, ℤ, List}
use Rattle.life_base.specs.Sets.{OuterTotalistic}
use Rattle.life_base.specs.Tree.{Tree}
use Rattle.life_quad.specs.Memory.{Recalls}
use Rattle.life_quad.specs.declared.id.Id.{Id}
use Rattle.life_quad.specs.declared.memory.Slot.{Slot}
use Rattle.life_next.specs.Generation.{next_life}
use Rattle.life_pieces.specs.Pieces.{Nine, IsPiece, IsBinary, IsOfLevel, InNine, AreNine, ids_of_nine}

module _ (knows : Id → Type 0) (content : Id → Tree) (rule : OuterTotalistic) where
  -- known squares of one level, of which the last has the next states of the one amid the nine, wherever on a plane these stand
  pub record IsAnswer (nine : Nine) (answer : Id) : Type 0 where
    pub level : ℕ
    pub known : InNine (IsOfLevel knows content level) nine
    pub at : IsOfLevel knows content level answer
    pub next : (cells : ℤ → ℤ → ℕ) (x y : ℤ) → IsBinary cells → AreNine content cells (2 ^ level) x y nine → IsPiece (next_life rule cells) x y (content answer)

  -- each answer that is remembered is right
  pub record RemembersBlocks (memory : List Slot) : Type 0 where
    pub answers : (nine : Nine) (answer : Id) → Recalls memory (ids_of_nine nine) answer → IsAnswer nine answer
