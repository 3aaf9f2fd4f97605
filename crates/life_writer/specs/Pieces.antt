-- A text that is written in pieces.
use Rattle.std.specs.Prelude.{◌≡◌, ℕ, Bool, List, Option, ◌++◌, flat_map}
use Rattle.std.specs.Io.KnownBytes.{Appends}
use Rattle.life_base.specs.Writing.{WritesPrefix}
use Rattle.life_mc.specs.Writing.{node_text}
use Rattle.life_mc.specs.declared.line.Line.{Line}

-- a prefix of the text was written, and this rest of it was not yet
pub record WritesPart (old new : Option (List ℕ)) (text rest : List ℕ) : Type 0 where
  pub part : List ℕ
  pub written : Appends old new part
  pub whole : part ++ rest ≡ text

-- The lines were added to a text of which `held` was not written yet, and then `left` is not. The sink has stalled exactly if it had before.
pub record PieceTakes {W : Type 0} (contents : W → Option (List ℕ)) (has_stalled : W → Bool) (old new : W) (held left : List ℕ) (lines : List Line)
    : Type 0 where
  pub text : WritesPart (contents old) (contents new) (held ++ flat_map node_text lines) left
  pub stalled : has_stalled new ≡ has_stalled old

-- A prefix of the text with these lines was written. A sink that failed has stalled exactly if it had before.
pub record PieceBreaks {W : Type 0} (contents : W → Option (List ℕ)) (failures : W → ℕ) (has_stalled : W → Bool) (old new : W) (held : List ℕ)
    (lines : List Line) : Type 0 where
  pub prefix : WritesPrefix (contents old) (contents new) (held ++ flat_map node_text lines)
  pub stalled : failures new ≡ 1 → has_stalled new ≡ has_stalled old
