use Rattle.std.proofs.Common.{◌≡◌, ℕ, ◌<◌, [], length, get_or}
use Rattle.life_table.specs.Index.{IsImage}
use Rattle.life_table.proofs.image_list.Images.new.Given as goal

-- the images so far have their places
abbrev pub invariant-loop-j : goal.invariant-loop-j
invariant-loop-j l = record {
  are : (i : ℕ) → i < l.j → IsImage l.ways l.cells i (get_or l.images i []);
  size : length l.images ≡ 16;
}
