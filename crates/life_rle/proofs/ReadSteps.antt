-- Reading the items of a line one after another: a plain function that computes, and that it reads what the line spells.
use Rattle.std.proofs.Common.{◌≡◌, ℕ, zero, suc, List, [], ◌∷◌, refl}
use Rattle.life_rle.specs.declared.item.Item.{Item}
use Rattle.life_rle.specs.Items.{Next, End, Mark, Spelled, Broken, next_of, Spells}

-- the items that at most n steps read from here, and what comes after them
abbrev pub items_read : ℕ → ℕ → Next → List Item
items_read level zero next = []
items_read level (suc n) End = []
items_read level (suc n) Mark = []
items_read level (suc n) (Broken kind) = []
items_read level (suc n) (Spelled item rest) = item ∷ items_read level n (next_of level rest)

abbrev pub last_read : ℕ → ℕ → Next → Next
last_read level zero next = next
last_read level (suc n) End = End
last_read level (suc n) Mark = Mark
last_read level (suc n) (Broken kind) = Broken kind
last_read level (suc n) (Spelled item rest) = last_read level n (next_of level rest)

-- what is read is spelled
pub read-Spells : (level : ℕ) (n : ℕ) (bytes : List ℕ) (next : Next) → next_of level bytes ≡ next
    → Spells level bytes (items_read level n next) (last_read level n next)
read-Spells level zero bytes next e = e
read-Spells level (suc n) bytes End e = e
read-Spells level (suc n) bytes Mark e = e
read-Spells level (suc n) bytes (Broken kind) e = e
read-Spells level (suc n) bytes (Spelled item rest) e = (rest, e, read-Spells level n rest (next_of level rest) refl)

-- reading the bytes of a line, step by step
pub line-Spells : (level : ℕ) (n : ℕ) (bytes : List ℕ) → Spells level bytes (items_read level n (next_of level bytes)) (last_read level n (next_of level bytes))
line-Spells level n bytes = read-Spells level n bytes (next_of level bytes) refl
