-- How many blocks there are at all levels.
use Rattle.std.proofs.Common.{◌≡◌, ℕ, zero, suc, ◌+◌, ◌*◌, ◌^◌, ◌≤◌, List, [], ◌∷◌, length, map, arith, length-append, pow_pos}
use Rattle.std.proofs.lemmas.List.{length-map}
use Rattle.life_rle.specs.declared.item.Item.{Item}
use Rattle.life_rle.proofs.BlockItems.{weigh, all_weigh, places, block_at, all_blocks}
use Rattle.life_rle.proofs.BlockPlaces.{places-few}
use Rattle.life_base.proofs.Basics.{twice}

next-level : (n : ℕ) (items : List Item) → all_weigh (suc n) items ≡ 2 * all_weigh n items + weigh (2 ^ suc n) items
next-level n [] = omega arith
next-level n (item ∷ items) = let rest = next-level n items in omega (arith, rest)

-- at each level four, and those that the items pay
pub all-few : (n left y : ℕ) (items : List Item) → length (all_blocks n left y items) * 2 ^ n ≤ all_weigh n items + 4 * n * 2 ^ n
all-few zero left y items = omega arith
all-few (suc n) left y items =
    let before = all-few n left y items in
    let last = places-few (2 ^ suc n) left y items (pow_pos (suc n)) in
    let next = next-level n items in
    let d = twice n in
    let h = length (all_blocks n left y items) in
    let p = length (places (2 ^ suc n) left y items) in
    let both = length-append (map (block_at (suc n)) (places (2 ^ suc n) left y items)) (all_blocks n left y items) in
    let same = length-map (places (2 ^ suc n) left y items) (block_at (suc n)) in
    let apart : (p + h) * 2 ^ suc n ≡ 2 * (h * 2 ^ n) + p * 2 ^ suc n = rw d (omega arith) in
    let free : 4 * suc n * 2 ^ suc n ≡ 2 * (4 * n * 2 ^ n) + 4 * 2 ^ suc n = rw d (omega arith) in
    rw both (rw same (omega (arith, before, last, next, apart, free)))
