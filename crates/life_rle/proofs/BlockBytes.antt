-- What the items of a text weigh: 14 blocks for each of its bytes at most.
use Rattle.std.proofs.Common.{◌≡◌, ℕ, suc, ◌+◌, ◌*◌, ◌^◌, ◌<◌, ◌≤◌, inl, inr, true, false, cond, List, [], ◌∷◌, ◌++◌, length, take, drop, ap, sym, subst, Some, None, Option, arith, eqb, ltb, length-append, take-append-drop}
use Rattle.std.proofs.Math.Nat.{mul-le-mul_right}
use Rattle.std.proofs.lemmas.Str.Parse.{digits_value_short}
use Rattle.std.specs.Char.{is_ascii_digit}
use Rattle.std.specs.List.{prefix_len}
use Rattle.life_base.proofs.PrefixDigits.{list_all-prefix}
use Rattle.life_base.proofs.Numbers.{own}
use Rattle.life_base.proofs.WordEnds.{length-trim_start}
use Rattle.life_base.specs.Lines.{joined_lines}
use Rattle.life_base.specs.Text.{trim_start, value_of}
use Rattle.life_base.specs.declared.kind.Kind.TheVariants.{ZeroCount, TooLarge}
use Rattle.life_rle.specs.States.{leading_state}
use Rattle.life_rle.specs.declared.item.Item.{Item}
use Rattle.life_rle.specs.declared.item.Item.TheVariants.{RowEnds}
use Rattle.life_rle.specs.Items.{leading_digits, after_digits_of, Next, End, Mark, Spelled, Broken, next_of_cells, item_after, item_with_digits, item_in, next_of, Spells}
use Rattle.life_rle.specs.Cursor.{item_count}
use Rattle.life_rle.specs.Grammar.{LineSpells, BodySpells, IsUnmarked, IsRle}
use Rattle.life_rle.specs.Pattern.{Rle}
use Rattle.life_rle.proofs.BlockItems.{weights, all_weigh}
use Rattle.life_rle.proofs.BlockWeights.{digits-pay, byte-pays}
use Rattle.life_rle.proofs.Shrinks.{LeavesState, state_at-leaves}

-- what stands in an item's place of bytes before which some stand already: its item weighs no more than the bytes that it takes
abbrev Pays : ℕ → ℕ → List ℕ → Next → Type 0
Pays n prefix bytes End = Unit {0}
Pays n prefix bytes Mark = Unit {0}
Pays n prefix bytes (Broken kind) = Unit {0}
Pays n prefix bytes (Spelled item rest) = weights n (item_count item) + 14 * length rest * 2 ^ n ≤ 14 * (prefix + length bytes) * 2 ^ n

-- an item of one byte more than the digits
pays-one : (n prefix count : ℕ) (bytes rest : List ℕ) → weights n count ≤ 14 * (prefix + 1) * 2 ^ n → length rest + 1 ≤ length bytes
    → weights n count + 14 * length rest * 2 ^ n ≤ 14 * (prefix + length bytes) * 2 ^ n
pays-one n prefix count bytes rest w le =
    let more : 14 * (prefix + 1 + length rest) ≤ 14 * (prefix + length bytes) = omega (arith, le) in
    let all = mul-le-mul_right (2 ^ n) more in
    omega (arith, w, all)

cells_of-pays : (n prefix count : ℕ) (o : Option (ℕ × List ℕ)) (bytes : List ℕ) → weights n count ≤ 14 * (prefix + 1) * 2 ^ n → LeavesState bytes o
    → Pays n prefix bytes (next_of_cells count o)
cells_of-pays n prefix count None bytes w h = tt
cells_of-pays n prefix count (Some found) bytes w h = pays-one n prefix count bytes found.1 w h

item_behind-pays : (n prefix count : ℕ) (bytes : List ℕ) → weights n count ≤ 14 * (prefix + 1) * 2 ^ n → Pays n prefix bytes (item_after count bytes)
item_behind-pays n prefix count [] w = tt
item_behind-pays n prefix count (b ∷ bytes) w =
    elim (eqb b 36) as (λ t. Pays n prefix (b ∷ bytes) (cond t (Spelled (RowEnds count) bytes) (next_of_cells count (leading_state (b ∷ bytes))))) [
      | true ↦ pays-one n prefix count (b ∷ bytes) bytes w (omega arith)
      | false ↦ cells_of-pays n prefix count (leading_state (b ∷ bytes)) (b ∷ bytes) w (state_at-leaves (b ∷ bytes))
    ]

counted-pays : (n level : ℕ) (digits bytes : List ℕ) → value_of digits < 10 ^ length digits → Pays n (length digits) bytes (item_with_digits level digits bytes)
counted-pays n level [] bytes h = item_behind-pays n 0 1 bytes (let w = byte-pays n in omega (arith, w))
counted-pays n level (d ∷ digits) bytes h =
    let v = value_of (d ∷ digits) in
    let prefix = length (d ∷ digits) in
    let one : prefix ≡ suc (length digits) = omega arith in
    let w = digits-pay n (length digits) v (subst (λ k. v < 10 ^ k) one h) in
    elim (eqb v 0) as (λ t. Pays n prefix bytes (cond t (Broken ZeroCount) (cond (ltb (2 ^ level) v) (Broken TooLarge) (item_after v bytes)))) [
      | true ↦ tt
      | false ↦ elim (ltb (2 ^ level) v) as (λ t. Pays n prefix bytes (cond t (Broken TooLarge) (item_after v bytes)))
          [ true ↦ tt | false ↦ item_behind-pays n prefix v bytes (rw one (omega (arith, w))) ]
    ]

Pays-longer : (n prefix : ℕ) (short long : List ℕ) (next : Next) → prefix + length short ≤ length long → Pays n prefix short next → Pays n 0 long next
Pays-longer n prefix short long End le h = tt
Pays-longer n prefix short long Mark le h = tt
Pays-longer n prefix short long (Broken kind) le h = tt
Pays-longer n prefix short long (Spelled item rest) le h =
    let more : 14 * (prefix + length short) ≤ 14 * (0 + length long) = omega (arith, le) in
    let all = mul-le-mul_right (2 ^ n) more in
    omega (arith, h, all)

digits-small : (bytes : List ℕ) → value_of (leading_digits bytes) < 10 ^ length (leading_digits bytes)
digits-small bytes = digits_value_short own (leading_digits bytes) (length (leading_digits bytes)) (list_all-prefix is_ascii_digit bytes) (omega arith)

digits-apart : (bytes : List ℕ) → length (leading_digits bytes) + length (after_digits_of bytes) ≤ length bytes
digits-apart bytes =
    let p = prefix_len is_ascii_digit bytes in
    let whole = ap (λ (l : List ℕ). length l) (take-append-drop p bytes) in
    let both = length-append (take p bytes) (drop p bytes) in
    omega (arith, whole, both)

item_in-pays : (n level : ℕ) (bytes : List ℕ) → Pays n 0 bytes (item_in level bytes)
item_in-pays n level [] = tt
item_in-pays n level (b ∷ bytes) =
    let prefix = leading_digits (b ∷ bytes) in
    let rest = after_digits_of (b ∷ bytes) in
    elim (eqb b 33) as (λ t. Pays n 0 (b ∷ bytes) (cond t Mark (item_with_digits level prefix rest))) [
      | true ↦ tt
      | false ↦ Pays-longer n (length prefix) rest (b ∷ bytes) (item_with_digits level prefix rest) (digits-apart (b ∷ bytes))
          (counted-pays n level prefix rest (digits-small (b ∷ bytes)))
    ]

next_of-pays : (n level : ℕ) (bytes : List ℕ) → Pays n 0 bytes (next_of level bytes)
next_of-pays n level bytes =
    Pays-longer n 0 (trim_start bytes) bytes (next_of level bytes) (let h = length-trim_start bytes in omega (arith, h))
    (item_in-pays n level (trim_start bytes))

-- ---- items that bytes spell

Spells-pays : (n level : ℕ) (items : List Item) (bytes : List ℕ) (last : Next) → Spells level bytes items last → all_weigh n items ≤ 14 * length bytes * 2 ^ n
Spells-pays n level [] bytes last h = omega arith
Spells-pays n level (item ∷ items) bytes last h =
    let rest = Spells-pays n level items h.0 last h.2 in
    let one = subst (Pays n 0 bytes) h.1 (next_of-pays n level bytes) in
    omega (arith, rest, one)

none-pay : (n bytes : ℕ) (items : List Item) → items ≡ [] → all_weigh n items ≤ 14 * bytes * 2 ^ n
none-pay n bytes items e = subst (λ (is : List Item). all_weigh n is ≤ 14 * bytes * 2 ^ n) (sym e) (omega arith)

LineSpells-pays : (n level : ℕ) (line : List ℕ) (items : List Item) (last : Next) → LineSpells level line items last
    → all_weigh n items ≤ 14 * length line * 2 ^ n
LineSpells-pays n level line items last (inl h) = none-pay n (length line) items h.1
LineSpells-pays n level line items last (inr h) = Spells-pays n level items line last h.1

all_weigh-append : (n : ℕ) (xs ys : List Item) → all_weigh n (xs ++ ys) ≡ all_weigh n xs + all_weigh n ys
all_weigh-append n [] ys = omega arith
all_weigh-append n (x ∷ xs) ys = let rest = all_weigh-append n xs ys in omega (arith, rest)

joined-length : (line : List ℕ) (lines : List (List ℕ)) → length (joined_lines (line ∷ lines)) ≡ length line + 1 + length (joined_lines lines)
joined-length line lines = let e = length-append line (10 ∷ joined_lines lines) in omega (arith, e)

pub joined-append : (xs ys : List (List ℕ)) → length (joined_lines (xs ++ ys)) ≡ length (joined_lines xs) + length (joined_lines ys)
joined-append [] ys = omega arith
joined-append (x ∷ xs) ys =
    let rest = joined-append xs ys in
    let a = joined-length x (xs ++ ys) in
    let b = joined-length x xs in
    omega (arith, rest, a, b)

BodySpells-pays : (n level : ℕ) (lines : List (List ℕ)) (items : List Item) → BodySpells level lines items
    → all_weigh n items ≤ 14 * length (joined_lines lines) * 2 ^ n
BodySpells-pays n level [] items h = none-pay n 0 items h
BodySpells-pays n level (line ∷ lines) items h =
    let first = LineSpells-pays n level line h.0 End h.3 in
    let rest = BodySpells-pays n level lines h.1 h.4 in
    let both = all_weigh-append n h.0 h.1 in
    let size = joined-length line lines in
    let more : 14 * (length line + length (joined_lines lines)) ≤ 14 * length (joined_lines (line ∷ lines)) = omega (arith, size) in
    let all = mul-le-mul_right (2 ^ n) more in
    subst (λ (is : List Item). all_weigh n is ≤ 14 * length (joined_lines (line ∷ lines)) * 2 ^ n) (sym h.2) (omega (arith, first, rest, both, all))

-- ---- of a file

IsUnmarked-pays : (n level : ℕ) (lines : List (List ℕ)) (file : Rle) → IsUnmarked level lines file
    → all_weigh n file.items ≤ 14 * length (joined_lines lines) * 2 ^ n
IsUnmarked-pays n level lines file b =
    let items = BodySpells-pays n level b.body file.items b.items in
    let whole = ap (λ (ls : List (List ℕ)). length (joined_lines ls)) b.whole in
    let apart = joined-append b.before (b.header ∷ b.body) in
    let size = joined-length b.header b.body in
    let more : 14 * length (joined_lines b.body) ≤ 14 * length (joined_lines lines) = omega (arith, whole, apart, size) in
    let all = mul-le-mul_right (2 ^ n) more in
    omega (arith, items, all)

pub file-pays : (n level : ℕ) (lines : List (List ℕ)) (file : Rle) → IsRle level lines file → all_weigh n file.items ≤ 14 * length (joined_lines lines) * 2 ^ n
file-pays n level lines file (inl b) = IsUnmarked-pays n level lines file b
file-pays n level lines file (inr b) =
    let begun = IsUnmarked-pays n level b.prefix (record file { items = b.earlier }) b.begun in
    let last = LineSpells-pays n level b.last b.final Mark b.marked in
    let both = all_weigh-append n b.earlier b.final in
    let whole = ap (λ (ls : List (List ℕ)). length (joined_lines ls)) b.whole in
    let apart = joined-append b.prefix (b.last ∷ b.free) in
    let size = joined-length b.last b.free in
    let more : 14 * (length (joined_lines b.prefix) + length b.last) ≤ 14 * length (joined_lines lines) = omega (arith, whole, apart, size) in
    let all = mul-le-mul_right (2 ^ n) more in
    subst (λ (is : List Item). all_weigh n is ≤ 14 * length (joined_lines lines) * 2 ^ n) (sym b.items) (omega (arith, begun, last, both, all))
