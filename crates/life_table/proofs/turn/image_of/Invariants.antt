use Rattle.std.proofs.Common.{◌≡◌, ◌+◌, ◌∷◌, take, drop, map, length, slice_index}
use Rattle.std.specs.List.{range_with_len}
use Rattle.life_table.proofs.Turning.{from_place}
use Rattle.life_table.proofs.turn.image_of.Given as goal

-- the centre and the neighbours so far
abbrev pub invariant-loop-i : goal.invariant-loop-i
invariant-loop-i l = record {
  prefix : take (l.i + 1) l.image ≡ slice_index l.cells 0 ∷ map (from_place (drop 1 l.cells) l.reflect l.r) (range_with_len 0 l.i);
  size : length l.image ≡ 9;
}
