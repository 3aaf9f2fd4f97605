-- Squares side by side: blocks of two by two of them, and what stays of them as a store grows.
use Rattle.std.proofs.Common.{◌≡◌, ℕ, ◌^◌, ℤ, List, subst}
use Rattle.life_base.specs.Tree.{Tree, quad, depth}
use Rattle.life_quad.specs.Keeping.{KeepsSquares}
use Rattle.life_quad.specs.declared.id.Id.{Id}
use Rattle.life_quad.specs.declared.moves.Quarters.{Quarters}
use Rattle.life_pieces.specs.Pieces.{IsPiece, IsOfLevel, step_ahead}
use Rattle.life_pieces.proofs.PieceLemmas.{IsAt-kept, IsPiece-kept, IsPiece-joined}
use Rattle.life_leap.specs.declared.grid.Triple.{Triple}
use Rattle.life_leap.specs.declared.grid.Row.{Row}
use Rattle.life_leap.specs.Grid.{InTriple, InRow, InFourIds, AreThreeSquares, AreFourSquares, IsBlockAt, western_block, eastern_block, blocks_of_rows}

-- ---- of each of several values

pub in-triple : {T : Type 0} {P Q : T → Type 0} {t : Triple T} → ((v : T) → P v → Q v) → InTriple P t → InTriple Q t
in-triple keep h = record { first = keep _ h.first; second = keep _ h.second; third = keep _ h.third }

pub in-row : {T : Type 0} {P Q : T → Type 0} {r : Row T} → ((v : T) → P v → Q v) → InRow P r → InRow Q r
in-row keep h = record { first = keep _ h.first; second = keep _ h.second; third = keep _ h.third; fourth = keep _ h.fourth }

pub in-four : {P Q : Id → Type 0} {b : Quarters} → ((v : Id) → P v → Q v) → InFourIds P b → InFourIds Q b
in-four keep h = record { nw = keep _ h.nw; ne = keep _ h.ne; sw = keep _ h.sw; se = keep _ h.se }

module _ {P : Id → Type 0} where
  pub in-first : {north south : Row Id} → InRow P north → InRow P south → InFourIds P (blocks_of_rows north south).first
  in-first n s = record { nw = n.first; ne = n.second; sw = s.first; se = s.second }

  pub in-second : {north south : Row Id} → InRow P north → InRow P south → InFourIds P (blocks_of_rows north south).second
  in-second n s = record { nw = n.second; ne = n.third; sw = s.second; se = s.third }

  pub in-third : {north south : Row Id} → InRow P north → InRow P south → InFourIds P (blocks_of_rows north south).third
  in-third n s = record { nw = n.third; ne = n.fourth; sw = s.third; se = s.fourth }

  pub in-western : {north south : Triple Id} → InTriple P north → InTriple P south → InFourIds P (western_block north south)
  in-western n s = record { nw = n.first; ne = n.second; sw = s.first; se = s.second }

  pub in-eastern : {north south : Triple Id} → InTriple P north → InTriple P south → InFourIds P (eastern_block north south)
  in-eastern n s = record { nw = n.second; ne = n.third; sw = s.second; se = s.third }

-- ---- where they are

module _ (content : Id → Tree) (cells : ℤ → ℤ → ℕ) (side : ℕ) (x y : ℤ) where
  pub at-first : {north south : Row Id} → AreFourSquares content cells side x y north → AreFourSquares content cells side x (step_ahead y side) south
      → IsBlockAt content cells side x y (blocks_of_rows north south).first
  at-first n s = record { nw = n.first; ne = n.second; sw = s.first; se = s.second }

  pub at-second : {north south : Row Id} → AreFourSquares content cells side x y north → AreFourSquares content cells side x (step_ahead y side) south
      → IsBlockAt content cells side (step_ahead x side) y (blocks_of_rows north south).second
  at-second n s = record { nw = n.second; ne = n.third; sw = s.second; se = s.third }

  pub at-third : {north south : Row Id} → AreFourSquares content cells side x y north → AreFourSquares content cells side x (step_ahead y side) south
      → IsBlockAt content cells side (step_ahead (step_ahead x side) side) y (blocks_of_rows north south).third
  at-third n s = record { nw = n.third; ne = n.fourth; sw = s.third; se = s.fourth }

  pub at-western : {north south : Triple Id} → AreThreeSquares content cells side x y north → AreThreeSquares content cells side x (step_ahead y side) south
      → IsBlockAt content cells side x y (western_block north south)
  at-western n s = record { nw = n.first; ne = n.second; sw = s.first; se = s.second }

  pub at-eastern : {north south : Triple Id} → AreThreeSquares content cells side x y north → AreThreeSquares content cells side x (step_ahead y side) south
      → IsBlockAt content cells side (step_ahead x side) y (eastern_block north south)
  at-eastern n s = record { nw = n.second; ne = n.third; sw = s.second; se = s.third }

-- four squares side by side are one
pub joined-at : (content : Id → Tree) (cells : ℤ → ℤ → ℕ) (k : ℕ) (x y : ℤ) (b : Quarters) (t : Tree) → depth (content b.nw) ≡ k
    → t ≡ quad (content b.nw) (content b.ne) (content b.sw) (content b.se) → IsBlockAt content cells (2 ^ k) x y b → IsPiece cells x y t
joined-at content cells k x y b t level is h = IsPiece-joined cells x y _ _ _ _ t k level is h.nw h.ne h.sw h.se

-- ---- what stays

module _ {S : Type 0} {knows : S → Id → Type 0} {content : S → Id → Tree} {stored : S → List Tree} {most : S → ℕ} {old new : S}
    (keeps : KeepsSquares knows content stored most old new) where
  pub block-kept : (cells : ℤ → ℤ → ℕ) {k side : ℕ} {x y : ℤ} {b : Quarters} → InFourIds (IsOfLevel (knows old) (content old) k) b
      → IsBlockAt (content old) cells side x y b → IsBlockAt (content new) cells side x y b
  block-kept cells known h =
      record {
        nw = IsPiece-kept keeps cells _ _ known.nw h.nw;
        ne = IsPiece-kept keeps cells _ _ known.ne h.ne;
        sw = IsPiece-kept keeps cells _ _ known.sw h.sw;
        se = IsPiece-kept keeps cells _ _ known.se h.se;
      }

  pub triple-known-kept : {k : ℕ} {t : Triple Id} → InTriple (IsOfLevel (knows old) (content old) k) t → InTriple (IsOfLevel (knows new) (content new) k) t
  triple-known-kept h = in-triple (λ id at. IsAt-kept keeps at) h

  pub three-kept : (cells : ℤ → ℤ → ℕ) (x y : ℤ) {k side : ℕ} {t : Triple Id} → InTriple (IsOfLevel (knows old) (content old) k) t
      → AreThreeSquares (content old) cells side x y t → AreThreeSquares (content new) cells side x y t
  three-kept cells x y known h =
      record {
        first = IsPiece-kept keeps cells _ _ known.first h.first;
        second = IsPiece-kept keeps cells _ _ known.second h.second;
        third = IsPiece-kept keeps cells _ _ known.third h.third;
      }

  pub row-kept : (cells : ℤ → ℤ → ℕ) (x y : ℤ) {k side : ℕ} {r : Row Id} → InRow (IsOfLevel (knows old) (content old) k) r
      → AreFourSquares (content old) cells side x y r → AreFourSquares (content new) cells side x y r
  row-kept cells x y known h =
      record {
        first = IsPiece-kept keeps cells _ _ known.first h.first;
        second = IsPiece-kept keeps cells _ _ known.second h.second;
        third = IsPiece-kept keeps cells _ _ known.third h.third;
        fourth = IsPiece-kept keeps cells _ _ known.fourth h.fourth;
      }

pub row-moved : (content : Id → Tree) (cells : ℤ → ℤ → ℕ) (side : ℕ) (x y z : ℤ) (r : Row Id) → y ≡ z → AreFourSquares content cells side x y r
    → AreFourSquares content cells side x z r
row-moved content cells side x y z r e h = subst (λ v. AreFourSquares content cells side x v r) e h

pub three-moved : (content : Id → Tree) (cells : ℤ → ℤ → ℕ) (side : ℕ) (x y z : ℤ) (t : Triple Id) → y ≡ z → AreThreeSquares content cells side x y t
    → AreThreeSquares content cells side x z t
three-moved content cells side x y z t e h = subst (λ v. AreThreeSquares content cells side x v t) e h
