-- A line breaks a rule of items exactly where no item's text stands in an item's place.
use Rattle.std.proofs.Common.{◌≡◌, ℕ, suc, ◌+◌, ◌<◌, true, false, cond, List, [], ◌∷◌, ◌++◌, drop, refl, sym, ap, ◌∙◌, inl, inr, Some, None, Option, arith, eqb, ltb, take-append-drop}
use Rattle.std.proofs.lemmas.Bool.Decides.{nat_tests}
use Rattle.std.specs.Char.{is_ascii_digit}
use Rattle.std.specs.List.{list_all, prefix_len}
use Rattle.life_base.specs.declared.kind.Kind.{Kind}
use Rattle.life_base.specs.declared.kind.Kind.TheVariants.{ZeroCount, TooLarge, BadItem}
use Rattle.life_base.specs.Text.{is_digit_text, trim_start, value_of}
use Rattle.life_rle.specs.States.{leading_state}
use Rattle.life_rle.specs.declared.item.Item.{Item}
use Rattle.life_rle.specs.declared.item.Item.TheVariants.{Cells, RowEnds}
use Rattle.life_rle.specs.Plane.{most_count}
use Rattle.life_rle.specs.Items.{leading_digits, after_digits_of, Mark, Spelled, Broken, next_of_cells, item_after, item_with_digits, item_in, next_of}
use Rattle.life_rle.specs.Plain.{IsCountText, HasNoIndent, HasNoDigit, HasNoState, HasItemPlace, IsNoItem, zero_count, large_count, no_state, FaultsArePlain}
use Rattle.life_base.proofs.PrefixDigits.{list_all-prefix}
use Rattle.life_rle.proofs.Texts.{Stops, prefix-stop, behind-stop}
use Rattle.life_rle.proofs.PlainItems.{IsRead-text, IsTextOf-Spells, Spells-IsTextOf, state_at-text}
use Rattle.life_rle.proofs.PlainHeader.{trim_start-HasNoIndent}
use Rattle.life_rle.proofs.ReadBack.{digits-all}

-- where no item stands a fault is found

plain-Stops : (rest : List ℕ) → HasNoDigit rest → Stops is_ascii_digit rest
plain-Stops [] h = tt
plain-Stops (b ∷ rest) h = h

-- what is before an item's place
next_of-place : (level : ℕ) (bytes : List ℕ) → HasItemPlace bytes → next_of level bytes ≡ item_with_digits level (leading_digits bytes) (after_digits_of bytes)
next_of-place level [] h = absurd h
next_of-place level (b ∷ bytes) h =
    let all = b ∷ bytes in
    let other : eqb b 33 ≡ false = elim (eqb b 33) as (λ t. eqb b 33 ≡ t → t ≡ false)
    [ true ↦ λ e. absurd (h.1 (grind (arith, nat_tests, e))) | false ↦ λ _. refl ] refl in
    ap (item_in level) (ap (λ t. cond t (trim_start bytes) all) h.0)
    ∙ ap (λ t. cond t Mark (item_with_digits level (leading_digits all) (after_digits_of all))) other

next_of-counted : (level : ℕ) (digits rest bytes : List ℕ) → HasItemPlace bytes → bytes ≡ digits ++ rest → list_all is_ascii_digit digits ≡ true
    → HasNoDigit rest → next_of level bytes ≡ item_with_digits level digits rest
next_of-counted level digits rest bytes place e h s =
    next_of-place level bytes place
    ∙ ap (λ (t : List ℕ). item_with_digits level (leading_digits t) (after_digits_of t)) e
    ∙ ap (λ (prefix : List ℕ). item_with_digits level prefix (after_digits_of (digits ++ rest))) (prefix-stop is_ascii_digit digits rest h (plain-Stops rest s))
    ∙ ap (item_with_digits level digits) (behind-stop is_ascii_digit digits rest h (plain-Stops rest s))

counted-zero : (level : ℕ) (digits rest : List ℕ) → is_digit_text digits ≡ true → value_of digits ≡ 0 → item_with_digits level digits rest ≡ Broken ZeroCount
counted-zero level [] rest h v = cc
counted-zero level (d ∷ digits) rest h v =
    let n = value_of (d ∷ digits) in
    let e : eqb n 0 ≡ true = grind (arith, nat_tests, v) in
    ap (λ t. cond t (Broken ZeroCount) (cond (ltb (most_count level) n) (Broken TooLarge) (item_after n rest))) e

counted-large : (level : ℕ) (digits rest : List ℕ) → is_digit_text digits ≡ true → most_count level < value_of digits
    → item_with_digits level digits rest ≡ Broken TooLarge
counted-large level [] rest h v = cc
counted-large level (d ∷ digits) rest h v =
    let n = value_of (d ∷ digits) in
    let e : eqb n 0 ≡ false = grind (arith, nat_tests, v) in
    let f : ltb (most_count level) n ≡ true = grind (arith, nat_tests, v) in
    ap (λ t. cond t (Broken ZeroCount) (cond (ltb (most_count level) n) (Broken TooLarge) (item_after n rest))) e
    ∙ ap (λ t. cond t (Broken TooLarge) (item_after n rest)) f

counted-count : (level count : ℕ) (digits rest : List ℕ) → IsCountText level digits count → item_with_digits level digits rest ≡ item_after count rest
counted-count level count digits rest (inl h) = ap (λ (ds : List ℕ). item_with_digits level ds rest) h.0 ∙ ap (λ n. item_after n rest) (sym h.1)
counted-count level count [] rest (inr h) = cc
counted-count level count (d ∷ digits) rest (inr h) =
    let e : eqb count 0 ≡ false = grind (arith, nat_tests, h.2) in
    let f : ltb (most_count level) count ≡ false = grind (arith, nat_tests, h.3) in
    ap (λ m. cond (eqb m 0) (Broken ZeroCount) (cond (ltb (most_count level) m) (Broken TooLarge) (item_after m rest))) (sym h.1)
    ∙ ap (λ t. cond t (Broken ZeroCount) (cond (ltb (most_count level) count) (Broken TooLarge) (item_after count rest))) e
    ∙ ap (λ t. cond t (Broken TooLarge) (item_after count rest)) f

count-digits : (level count : ℕ) (digits : List ℕ) → IsCountText level digits count → list_all is_ascii_digit digits ≡ true
count-digits level count digits (inl h) = ap (list_all is_ascii_digit) h.0
count-digits level count [] (inr h) = refl
count-digits level count (d ∷ digits) (inr h) = h.0

no_state-None : (bytes : List ℕ) → HasNoState bytes → leading_state bytes ≡ None
no_state-None bytes h = step (leading_state bytes) refl
  where
    step : (o : Option (ℕ × List ℕ)) → leading_state bytes ≡ o → o ≡ None
    step None e = refl
    step (Some found) e = let s = state_at-text bytes found.1 found.0 e in absurd (h.0 s.0 found.1 found.0 s.1 s.2)

item_behind-none : (count : ℕ) (bytes : List ℕ) → HasNoState bytes → item_after count bytes ≡ Broken BadItem
item_behind-none count [] h = refl
item_behind-none count (b ∷ bytes) h =
    let other : eqb b 36 ≡ false =
    elim (eqb b 36) as (λ t. eqb b 36 ≡ t → t ≡ false) [
      | true ↦ λ e. let v : b ≡ 36 = grind (arith, nat_tests, e) in absurd (h.1 bytes (ap (λ (n : ℕ). n ∷ bytes) v))
      | false ↦ λ _. refl
    ] refl in
    ap (λ t. cond t (Spelled (RowEnds count) bytes) (next_of_cells count (leading_state (b ∷ bytes)))) other
    ∙ ap (next_of_cells count) (no_state-None (b ∷ bytes) h)

IsNoItem-Broken : (level : ℕ) (bytes : List ℕ) (kind : Kind) → HasItemPlace bytes → IsNoItem level bytes kind → next_of level bytes ≡ Broken kind
IsNoItem-Broken level bytes kind place (zero_count digits rest e h s v k) = next_of-counted level digits rest bytes place e (digits-all digits h) s
    ∙ counted-zero level digits rest h v ∙ ap Broken (sym k)
IsNoItem-Broken level bytes kind place (large_count digits rest e h s v k) = next_of-counted level digits rest bytes place e (digits-all digits h) s
    ∙ counted-large level digits rest h v ∙ ap Broken (sym k)
IsNoItem-Broken level bytes kind place (no_state digits rest count e c s h k) =
    next_of-counted level digits rest bytes place e (count-digits level count digits c) s ∙ counted-count level count digits rest c
    ∙ item_behind-none count rest h ∙ ap Broken (sym k)

-- where a fault is found no item stands

behind-HasNoDigit : (bytes : List ℕ) → HasNoDigit (after_digits_of bytes)
behind-HasNoDigit [] = tt
behind-HasNoDigit (b ∷ bytes) =
    elim (is_ascii_digit b) as (λ t. is_ascii_digit b ≡ t → HasNoDigit (drop (cond t (1 + prefix_len is_ascii_digit bytes) 0) (b ∷ bytes))) [
      | true ↦ λ _. let k : 1 + prefix_len is_ascii_digit bytes ≡ suc (prefix_len is_ascii_digit bytes) = omega arith in rw k (behind-HasNoDigit bytes)
      | false ↦ λ e. e
    ] refl

cells_of-kind : (count : ℕ) (kind : Kind) (o : Option (ℕ × List ℕ)) → next_of_cells count o ≡ Broken kind → kind ≡ BadItem
cells_of-kind count kind None h = cc
cells_of-kind count kind (Some found) h = cc

item_behind-kind : (count : ℕ) (bytes : List ℕ) (kind : Kind) → item_after count bytes ≡ Broken kind → kind ≡ BadItem
item_behind-kind count [] kind h = cc
item_behind-kind count (b ∷ bytes) kind h =
    elim (eqb b 36) as (λ t. cond t (Spelled (RowEnds count) bytes) (next_of_cells count (leading_state (b ∷ bytes))) ≡ Broken kind → kind ≡ BadItem)
    [ true ↦ λ h. cc | false ↦ λ h. cells_of-kind count kind (leading_state (b ∷ bytes)) h ] h

broken_or_spelled : (kind : Kind) (item : Item) (rest : List ℕ) → Broken kind ≡ Spelled item rest → ⊥
broken_or_spelled kind item rest h = cc

item_behind-HasNoState : (count : ℕ) (bytes : List ℕ) (kind : Kind) → item_after count bytes ≡ Broken kind → HasNoState bytes
item_behind-HasNoState count bytes kind h = (
  (λ text rest state s e. broken_or_spelled kind (Cells count state) rest (sym h ∙ ap (item_after count) e ∙ (IsRead-text count state text rest s).1)),
  (λ rest e. broken_or_spelled kind (RowEnds count) rest (sym h ∙ ap (item_after count) e)),
)

behind-IsNoItem : (level count : ℕ) (digits rest bytes : List ℕ) (kind : Kind) → bytes ≡ digits ++ rest → IsCountText level digits count → HasNoDigit rest
    → item_after count rest ≡ Broken kind → IsNoItem level bytes kind
behind-IsNoItem level count digits rest bytes kind e c s h = no_state digits rest count e c s (item_behind-HasNoState count rest kind h)
    (item_behind-kind count rest kind h)

counted-IsNoItem : (level : ℕ) (digits rest bytes : List ℕ) (kind : Kind) → bytes ≡ digits ++ rest → list_all is_ascii_digit digits ≡ true → HasNoDigit rest
    → item_with_digits level digits rest ≡ Broken kind → IsNoItem level bytes kind
counted-IsNoItem level [] rest bytes kind e a s = behind-IsNoItem level 1 [] rest bytes kind e (inl (refl, refl)) s
counted-IsNoItem level (d ∷ digits) rest bytes kind e a s =
    let n = value_of (d ∷ digits) in
    elim (eqb n 0) as (λ t. eqb n 0 ≡ t → cond t (Broken ZeroCount) (cond (ltb (most_count level) n) (Broken TooLarge) (item_after n rest)) ≡ Broken kind
    → IsNoItem level bytes kind) [
      | true ↦ λ z h. zero_count (d ∷ digits) rest e a s (grind (arith, nat_tests, z)) cc
      | false ↦ λ z. elim (ltb (most_count level) n)
          as (λ t. ltb (most_count level) n ≡ t → cond t (Broken TooLarge) (item_after n rest) ≡ Broken kind → IsNoItem level bytes kind) [
            | true ↦ λ l h. large_count (d ∷ digits) rest e a s (grind (arith, nat_tests, l)) cc
            | false ↦ λ l h. behind-IsNoItem level n (d ∷ digits) rest bytes kind e (inr (a, refl, grind (arith, nat_tests, z), grind (arith, nat_tests, l))) s
                h
          ] refl
    ] refl

item_in-IsNoItem : (level : ℕ) (bytes : List ℕ) (kind : Kind) → HasNoIndent bytes → item_in level bytes ≡ Broken kind → HasItemPlace bytes
    × IsNoItem level bytes kind
item_in-IsNoItem level [] kind n h = cc
item_in-IsNoItem level (b ∷ bytes) kind n read =
    let all = b ∷ bytes in
    elim (eqb b 33) as (λ t. eqb b 33 ≡ t → cond t Mark (item_with_digits level (leading_digits all) (after_digits_of all)) ≡ Broken kind → HasItemPlace all
    × IsNoItem level all kind) [
      | true ↦ λ _ h. cc
      | false ↦ λ e h. (
        (n, λ v. let same : eqb b 33 ≡ true = grind (arith, nat_tests, v) in cc),
        counted-IsNoItem level (leading_digits all) (after_digits_of all) all kind (sym (take-append-drop (prefix_len is_ascii_digit all) all))
            (list_all-prefix is_ascii_digit all) (behind-HasNoDigit all) h,
      )
    ] refl read

pub faults_are_plain : FaultsArePlain
faults_are_plain level line items kind = (
  (λ h. let k = Spells-IsTextOf level items line (Broken kind) (λ rest. HasItemPlace rest × IsNoItem level rest kind)
      (λ bytes e. item_in-IsNoItem level (trim_start bytes) kind (trim_start-HasNoIndent bytes) e) h in (k.0, k.2, k.1.0, k.1.1)),
  (λ h. IsTextOf-Spells level items line h.0 (Broken kind) (IsNoItem-Broken level h.0 kind h.2 h.3) h.1),
)
