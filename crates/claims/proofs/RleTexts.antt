-- The first text of a line of data is the item that the layer below reads before it.
use mathlib.Core.Bool.{and-false}
use Rattle.std.proofs.Common.{◌≡◌, ℕ, suc, ◌+◌, ◌-◌, ◌*◌, ◌^◌, ◌<◌, ◌≤◌, List, [], ◌∷◌, take, drop, Bool, true, false, cond, ◌&&◌, ◌||◌, refl, ap, ◌∙◌, sym, subst, arith, ◌⊎◌, inl, inr, nat_le, nat_lt, ◌==◌, bytes_eq, codes, take_while, Option, Some, None, Result, Ok, Err}
use Rattle.std.specs.Char.{is_ascii_digit}
use Rattle.std.specs.List.{prefix_len}
use Rattle.std.specs.Option.{option_or}
use Rattle.std.proofs.lemmas.Bool.Decides.{nat_tests}
use Rattle.std.proofs.lemmas.Bool.{cases_Bool}
use Rattle.life_base.specs.Text.{onto_first, value_of}
use Rattle.life_base.specs.declared.kind.Kind.{Kind}
use Rattle.life_base.specs.declared.kind.Kind.TheVariants as kinds
use Rattle.life_rle.specs.declared.item.Item.{Item as LayerItem}
use Rattle.life_rle.specs.declared.item.Item.TheVariants.{Cells, RowEnds}
use Rattle.life_rle.specs.Items.{Next, Spelled, Broken, leading_digits, after_digits_of, item_after, item_with_digits, next_of_cells as layer_cells_of}
use Rattle.life_rle.specs.States.{single_state, prefixed_number, prefixed_state, with_rest, leading_state}
use Rattle.claims.specs.Outcomes.{◌>>=◌}
use Rattle.claims.specs.Rle.{Item, row_ends, letter_state, claimed_prefixed_state, claimed_state_of, claimed_count_of, claimed_run_of, claimed_item_of, claimed_texts_of}
use Rattle.claims.proofs.RlePlane.{item_in}

-- a digit or a prefix of a state
abbrev pub inner : ℕ → Bool
inner b = is_ascii_digit b || nat_le 112 b && nat_le b 121

-- the first text, and what comes after it
abbrev pub text_of : List ℕ → List ℕ
text_of [] = []
text_of (b ∷ bytes) = cond (inner b) (b ∷ text_of bytes) (b ∷ [])

abbrev pub rest_of : List ℕ → List ℕ
rest_of [] = []
rest_of (b ∷ bytes) = cond (inner b) (rest_of bytes) bytes

pub texts_cut : (b : ℕ) (bytes : List ℕ) → claimed_texts_of (b ∷ bytes) ≡ text_of (b ∷ bytes) ∷ claimed_texts_of (rest_of (b ∷ bytes))
texts_cut b [] = by (inner b)
  where
    by : (v : Bool) → cond v (onto_first b (claimed_texts_of [])) ((b ∷ []) ∷ []) ≡ cond v (b ∷ []) (b ∷ []) ∷ claimed_texts_of (cond v [] [])
    by true = refl
    by false = refl
texts_cut b (c ∷ bytes) = ap (λ (t : List (List ℕ)). cond (inner b) (onto_first b t) ((b ∷ []) ∷ claimed_texts_of (c ∷ bytes))) (texts_cut c bytes)
    ∙ by (inner b) (texts_cut c bytes)
  where
    by : (v : Bool) → claimed_texts_of (c ∷ bytes) ≡ text_of (c ∷ bytes) ∷ claimed_texts_of (rest_of (c ∷ bytes))
        → cond v (onto_first b (text_of (c ∷ bytes) ∷ claimed_texts_of (rest_of (c ∷ bytes)))) ((b ∷ []) ∷ claimed_texts_of (c ∷ bytes))
        ≡ cond v (b ∷ text_of (c ∷ bytes)) (b ∷ []) ∷ claimed_texts_of (cond v (rest_of (c ∷ bytes)) (c ∷ bytes))
    by true e = refl
    by false e = refl

-- ---- digits at the beginning

abbrev behind : List ℕ → List ℕ
behind text = drop (prefix_len is_ascii_digit text) text

drop_one : (n b : ℕ) (t : List ℕ) → drop (1 + n) (b ∷ t) ≡ drop n t
drop_one n b t = let e : 1 + n ≡ suc n = omega arith in ap (λ m. drop m (b ∷ t)) e

take_one : (n b : ℕ) (t : List ℕ) → take (1 + n) (b ∷ t) ≡ b ∷ take n t
take_one n b t = let e : 1 + n ≡ suc n = omega arith in ap (λ m. take m (b ∷ t)) e

digit_inner : (b : ℕ) → is_ascii_digit b ≡ true → inner b ≡ true
digit_inner b h = ap (λ v. v || nat_le 112 b && nat_le b 121) h

-- what starts with a digit
behind_digit : (b : ℕ) (t : List ℕ) → is_ascii_digit b ≡ true → behind (b ∷ t) ≡ behind t
behind_digit b t h = ap (λ v. drop (cond v (1 + prefix_len is_ascii_digit t) 0) (b ∷ t)) h ∙ drop_one (prefix_len is_ascii_digit t) b t

behind_other : (b : ℕ) (t : List ℕ) → is_ascii_digit b ≡ false → behind (b ∷ t) ≡ b ∷ t
behind_other b t h = ap (λ v. drop (cond v (1 + prefix_len is_ascii_digit t) 0) (b ∷ t)) h

prefix_digit : (b : ℕ) (t : List ℕ) → is_ascii_digit b ≡ true → take_while is_ascii_digit (b ∷ t) ≡ b ∷ take_while is_ascii_digit t
prefix_digit b t h = ap (λ v. take (cond v (1 + prefix_len is_ascii_digit t) 0) (b ∷ t)) h ∙ take_one (prefix_len is_ascii_digit t) b t

prefix_other : (b : ℕ) (t : List ℕ) → is_ascii_digit b ≡ false → take_while is_ascii_digit (b ∷ t) ≡ []
prefix_other b t h = ap (λ v. take (cond v (1 + prefix_len is_ascii_digit t) 0) (b ∷ t)) h

text_digit : (b : ℕ) (bytes : List ℕ) → is_ascii_digit b ≡ true → text_of (b ∷ bytes) ≡ b ∷ text_of bytes
text_digit b bytes h = ap (λ v. cond v (b ∷ text_of bytes) (b ∷ [])) (digit_inner b h)

rest_digit : (b : ℕ) (bytes : List ℕ) → is_ascii_digit b ≡ true → rest_of (b ∷ bytes) ≡ rest_of bytes
rest_digit b bytes h = ap (λ v. cond v (rest_of bytes) bytes) (digit_inner b h)

-- a text begins as the bytes do
pub text_begins : (b : ℕ) (bytes : List ℕ) → (tail : List ℕ) × (text_of (b ∷ bytes) ≡ b ∷ tail)
text_begins b bytes = by (inner b)
  where
    by : (v : Bool) → (tail : List ℕ) × (cond v (b ∷ text_of bytes) (b ∷ []) ≡ b ∷ tail)
    by true = (text_of bytes, refl)
    by false = ([], refl)

prefixes_are : (bytes : List ℕ) → take_while is_ascii_digit (text_of bytes) ≡ leading_digits bytes
prefixes_are [] = refl
prefixes_are (b ∷ bytes) = elim (cases_Bool (is_ascii_digit b)) [
  | inl h ↦ ap (take_while is_ascii_digit) (text_digit b bytes h) ∙ prefix_digit b (text_of bytes) h ∙ ap (λ (t : List ℕ). b ∷ t) (prefixes_are bytes)
      ∙ sym (prefix_digit b bytes h)
  | inr h ↦
      let t = text_begins b bytes in
      ap (take_while is_ascii_digit) t.1 ∙ prefix_other b t.0 h ∙ sym (prefix_other b bytes h)
]

behinds_are : (bytes : List ℕ) → behind (text_of bytes) ≡ text_of (after_digits_of bytes)
behinds_are [] = refl
behinds_are (b ∷ bytes) = elim (cases_Bool (is_ascii_digit b)) [
  | inl h ↦ ap behind (text_digit b bytes h) ∙ behind_digit b (text_of bytes) h ∙ behinds_are bytes ∙ ap text_of (sym (behind_digit b bytes h))
  | inr h ↦
      let t = text_begins b bytes in
      ap behind t.1 ∙ behind_other b t.0 h ∙ sym t.1 ∙ ap text_of (sym (behind_other b bytes h))
]

rests_are : (bytes : List ℕ) → rest_of bytes ≡ rest_of (after_digits_of bytes)
rests_are [] = refl
rests_are (b ∷ bytes) = elim (cases_Bool (is_ascii_digit b)) [
  | inl h ↦ rest_digit b bytes h ∙ rests_are bytes ∙ ap rest_of (sym (behind_digit b bytes h))
  | inr h ↦ ap rest_of (sym (behind_other b bytes h))
]

-- what comes after the digits does not begin with one
no_digit : (bytes : List ℕ) (b : ℕ) (rest : List ℕ) → after_digits_of bytes ≡ b ∷ rest → is_ascii_digit b ≡ false
no_digit [] b rest e = cc
no_digit (a ∷ bytes) b rest e = elim (cases_Bool (is_ascii_digit a)) [
  | inl h ↦ no_digit bytes b rest (sym (behind_digit a bytes h) ∙ e)
  | inr h ↦ let k : a ∷ bytes ≡ b ∷ rest = sym (behind_other a bytes h) ∙ e in let same : a ≡ b = cc in ap is_ascii_digit (sym same) ∙ h
]

-- ---- states

between : (n low high : ℕ) → (nat_le low n && nat_le n high) ≡ true → (low ≤ n) × (n ≤ high)
between n low high h = by (nat_le low n) (nat_le n high) refl refl h
  where
    by : (v w : Bool) → nat_le low n ≡ v → nat_le n high ≡ w → (v && w) ≡ true → (low ≤ n) × (n ≤ high)
    by true true e f k = let a : low ≤ n = grind (arith, nat_tests) in let b : n ≤ high = grind (arith, nat_tests) in (a, b)
    by true false e f k = cc
    by false w e f k = cc

outside : (n low high : ℕ) → (n < low) ⊎ (high < n) → (nat_le low n && nat_le n high) ≡ false
outside n low high (inl h) = let e : nat_le low n ≡ false = grind (arith, nat_tests) in ap (λ v. v && nat_le n high) e
outside n low high (inr h) = let e : nat_le n high ≡ false = grind (arith, nat_tests) in ap (λ v. nat_le low n && v) e ∙ and-false (nat_le low n)

letter_is : (b : ℕ) → letter_state b ≡ cond (nat_le 65 b && nat_le b 88) (Some (b - 64)) None
letter_is b = elim (cases_Bool (nat_le 65 b && nat_le b 88)) [
  | inl h ↦
      let low = (between b 65 88 h).0 in
      let e : b - 65 + 1 ≡ b - 64 = omega arith in
      ap (λ n. cond (nat_le 65 b && nat_le b 88) (Some n) None) e
  | inr h ↦ ap (λ v. cond v (Some (b - 65 + 1)) None) h ∙ sym (ap (λ v. cond v (Some (b - 64)) None) h)
]

single_is : (b : ℕ) → claimed_state_of (b ∷ []) ≡ single_state b
single_is b = ap (λ (o : Option ℕ). cond (b == 98 || b == 46) (Some 0) (cond (b == 111) (Some 1) o)) (letter_is b)

differs : (a b : ℕ) → (a < b) ⊎ (b < a) → (a == b) ≡ false
differs a b (inl h) = grind (arith, nat_tests)
differs a b (inr h) = grind (arith, nat_tests)

-- a prefix alone is no state, and is no `$`
prefix_single : (b : ℕ) → (nat_le 112 b && nat_le b 121) ≡ true → single_state b ≡ None
prefix_single b h =
    let r = between b 112 121 h in
    let low = r.0 in
    rw (
      differs b 98 (inr (omega (arith, low))),
      differs b 46 (inr (omega (arith, low))),
      differs b 111 (inr (omega (arith, low))),
      outside b 65 88 (inr (omega (arith, low))),
    ) refl

prefix_no_end : (b : ℕ) → (nat_le 112 b && nat_le b 121) ≡ true → (b == 36) ≡ false
prefix_no_end b h = let low = (between b 112 121 h).0 in differs b 36 (inr (omega (arith, low)))

-- a prefix and a letter
prefixed_is : (p b : ℕ) → (nat_le 112 p && nat_le p 121) ≡ true → claimed_prefixed_state p (letter_state b) ≡ prefixed_state p b
prefixed_is p b h = elim (cases_Bool (nat_le 65 b && nat_le b 88)) [
  | inl k ↦
      let low = (between p 112 121 h).0 in
      let least = (between b 65 88 k).0 in
      let e : 24 * (p - 112 + 1) + (b - 64) ≡ prefixed_number p b = omega arith in
      ap (claimed_prefixed_state p) (letter_is b ∙ ap (λ v. cond v (Some (b - 64)) None) k)
      ∙ ap (λ n. cond (nat_le 112 p && nat_le p 121 && nat_le n 255) (Some n) None) e
      ∙ all (nat_le 112 p) (nat_le p 121) (nat_le 65 b && nat_le b 88) (nat_le (prefixed_number p b) 255) h k
  | inr k ↦
      ap (claimed_prefixed_state p) (letter_is b ∙ ap (λ v. cond v (Some (b - 64)) None) k)
      ∙ nothing (nat_le 112 p && nat_le p 121) (nat_le 65 b && nat_le b 88) (nat_le (prefixed_number p b) 255) k
]
  where
    all : (u v w x : Bool) → (u && v) ≡ true → w ≡ true
        → cond (u && v && x) (Some (prefixed_number p b)) None ≡ cond ((u && v) && w && x) (Some (prefixed_number p b)) None
    all true true true x e f = refl
    all true true false x e f = cc
    all true false w x e f = cc
    all false v w x e f = cc

    nothing : (u w x : Bool) → w ≡ false → None ≡ cond (u && w && x) (Some (prefixed_number p b)) None
    nothing true true x e = cc
    nothing true false x e = refl
    nothing false w x e = refl

no_prefix : (p b : ℕ) → (nat_le 112 p && nat_le p 121) ≡ false → prefixed_state p b ≡ None
no_prefix p b h = by (nat_le 112 p && nat_le p 121) (nat_le 65 b && nat_le b 88) (nat_le (prefixed_number p b) 255) h
  where
    by : (u w x : Bool) → u ≡ false → cond (u && w && x) (Some (prefixed_number p b)) None ≡ None
    by true w x e = cc
    by false w x e = refl

no_letter : (b : ℕ) → inner b ≡ true → letter_state b ≡ None
no_letter b h = letter_is b ∙ ap (λ v. cond v (Some (b - 64)) None) (apart (cases_Bool (is_ascii_digit b)))
  where
    apart : (is_ascii_digit b ≡ true) ⊎ (is_ascii_digit b ≡ false) → (nat_le 65 b && nat_le b 88) ≡ false
    apart (inl d) = let high = (between b 48 57 d).1 in outside b 65 88 (inl (omega (arith, high)))
    apart (inr d) =
        let k : (nat_le 112 b && nat_le b 121) ≡ true = sym (ap (λ v. v || nat_le 112 b && nat_le b 121) d) ∙ h in
        let low = (between b 112 121 k).0 in outside b 65 88 (inr (omega (arith, low)))

-- ---- an item

-- what is found in an item's place, and what its text says
pub data Found (rest : List ℕ) : Next → Result Item Kind → Type 0 where
  spelled : (item : LayerItem) → Found rest (Spelled item rest) (Ok (item_in item))
  broken : (kind : Kind) → Found rest (Broken kind) (Err kind)

moved : (rest : List ℕ) {n m : Next} {r s : Result Item Kind} → n ≡ m → r ≡ s → Found rest m s → Found rest n r
moved rest {n} {m} {r} {s} e f h = subst (λ x. Found rest x r) (sym e) (subst (λ x. Found rest m x) (sym f) h)

-- what the text after the digits says
abbrev last_item : ℕ → List ℕ → Result Item Kind
last_item count last = cond (bytes_eq last (codes "$")) (Ok (row_ends count)) (claimed_run_of count (claimed_state_of last))

state_found : (count : ℕ) (rest : List ℕ) (o : Option ℕ) → Found rest (layer_cells_of count (with_rest o rest)) (claimed_run_of count o)
state_found count rest (Some state) = spelled (Cells count state)
state_found count rest None = broken kinds.BadItem

one_byte : (count c : ℕ) (u : List ℕ) → (nat_le 112 c && nat_le c 121) ≡ false → Found u (item_after count (c ∷ u)) (last_item count (c ∷ []))
one_byte count c u h = elim (cases_Bool (c == 36)) [
  | inl e ↦
      let n : item_after count (c ∷ u)
      ≡ Spelled (RowEnds count) u = ap (λ v. cond v (Spelled (RowEnds count) u) (layer_cells_of count (leading_state (c ∷ u)))) e in
      let r : last_item count (c ∷ []) ≡ Ok (row_ends count) = ap
      (λ v. cond (v && true) (Ok (row_ends count)) (claimed_run_of count (claimed_state_of (c ∷ [])))) e in
      moved u n r (spelled (RowEnds count))
  | inr e ↦
      let n : item_after count (c ∷ u) ≡ layer_cells_of count (with_rest (single_state c) u) =
      ap (λ v. cond v (Spelled (RowEnds count) u) (layer_cells_of count (leading_state (c ∷ u)))) e ∙ ap (layer_cells_of count) (single u) in
      let r : last_item count (c ∷ []) ≡ claimed_run_of count (single_state c) =
      ap (λ v. cond (v && true) (Ok (row_ends count)) (claimed_run_of count (claimed_state_of (c ∷ [])))) e ∙ ap (claimed_run_of count) (single_is c) in
      moved u n r (state_found count u (single_state c))
]
  where
    only : (o : Option (ℕ × List ℕ)) → option_or o None ≡ o
    only (Some x) = refl
    only None = refl

    single : (u : List ℕ) → leading_state (c ∷ u) ≡ with_rest (single_state c) u
    single [] = refl
    single (d ∷ u) = ap (λ o. option_or (with_rest (single_state c) (d ∷ u)) (with_rest o u)) (no_prefix c d h) ∙ only (with_rest (single_state c) (d ∷ u))

two_bytes : (count c d : ℕ) (u tail : List ℕ) → (nat_le 112 c && nat_le c 121) ≡ true → claimed_state_of (c ∷ d ∷ tail) ≡ prefixed_state c d
    → Found u (item_after count (c ∷ d ∷ u)) (last_item count (c ∷ d ∷ tail))
two_bytes count c d u tail h k =
    let e = prefix_no_end c h in
    let n : item_after count (c ∷ d ∷ u) ≡ layer_cells_of count (with_rest (prefixed_state c d) u) =
    ap (λ v. cond v (Spelled (RowEnds count) (d ∷ u)) (layer_cells_of count (leading_state (c ∷ d ∷ u)))) e
    ∙ ap (λ o. layer_cells_of count (option_or (with_rest o (d ∷ u)) (with_rest (prefixed_state c d) u))) (prefix_single c h) in
    let r : last_item count (c ∷ d ∷ tail) ≡ claimed_run_of count (prefixed_state c d) =
    ap (λ v. cond (v && bytes_eq (d ∷ tail) []) (Ok (row_ends count)) (claimed_run_of count (claimed_state_of (c ∷ d ∷ tail)))) e
    ∙ ap (claimed_run_of count) k in
    moved u n r (state_found count u (prefixed_state c d))

at_rest : (n : Next) (r : Result Item Kind) {a b : List ℕ} → a ≡ b → Found b n r → Found a n r
at_rest n r {a} {b} e h = subst (λ x. Found x n r) (sym e) h

-- a prefix alone
alone : (count c : ℕ) → (nat_le 112 c && nat_le c 121) ≡ true → Found [] (item_after count (c ∷ [])) (last_item count (c ∷ []))
alone count c h =
    let e = prefix_no_end c h in
    let n : item_after count (c ∷ []) ≡ layer_cells_of count (with_rest (single_state c) []) =
    ap (λ v. cond v (Spelled (RowEnds count) []) (layer_cells_of count (leading_state (c ∷ [])))) e in
    let r : last_item count (c ∷ []) ≡ claimed_run_of count (single_state c) =
    ap (λ v. cond (v && true) (Ok (row_ends count)) (claimed_run_of count (claimed_state_of (c ∷ [])))) e ∙ ap (claimed_run_of count) (single_is c) in
    moved [] n r (state_found count [] (single_state c))

-- a prefix and what is no letter
not_two : (count c d : ℕ) (u rest : List ℕ) → (nat_le 112 c && nat_le c 121) ≡ true → inner d ≡ true
    → Found rest (item_after count (c ∷ d ∷ u)) (last_item count (c ∷ d ∷ text_of u))
not_two count c d u rest h k =
    let e = prefix_no_end c h in
    let no : prefixed_state c d ≡ None = sym (prefixed_is c d h) ∙ ap (claimed_prefixed_state c) (no_letter d k) in
    let n : item_after count (c ∷ d ∷ u) ≡ Broken kinds.BadItem =
    ap (λ v. cond v (Spelled (RowEnds count) (d ∷ u)) (layer_cells_of count (leading_state (c ∷ d ∷ u)))) e
    ∙ ap (λ o. layer_cells_of count (option_or (with_rest o (d ∷ u)) (with_rest (prefixed_state c d) u))) (prefix_single c h)
    ∙ ap (λ o. layer_cells_of count (with_rest o u)) no in
    let r : last_item count (c ∷ d ∷ text_of u) ≡ Err kinds.BadItem =
    ap (λ v. cond (v && bytes_eq (d ∷ text_of u) []) (Ok (row_ends count)) (claimed_run_of count (claimed_state_of (c ∷ d ∷ text_of u)))) e
    ∙ ap (claimed_run_of count) (no_state (text_of u)) in
    moved rest n r (broken kinds.BadItem)
  where
    no_state : (tail : List ℕ) → claimed_state_of (c ∷ d ∷ tail) ≡ None
    no_state [] = ap (claimed_prefixed_state c) (no_letter d k)
    no_state (x ∷ tail) = refl

last_found : (count : ℕ) (u : List ℕ) → ((b : ℕ) (rest : List ℕ) → u ≡ b ∷ rest → is_ascii_digit b ≡ false)
    → Found (rest_of u) (item_after count u) (last_item count (text_of u))
last_found count [] h = broken kinds.BadItem
last_found count (c ∷ []) h = elim (cases_Bool (nat_le 112 c && nat_le c 121)) [
  | inl p ↦
      let i : inner c ≡ true = ap (λ v. v || nat_le 112 c && nat_le c 121) (h c [] refl) ∙ p in
      at_rest (item_after count (c ∷ [])) (last_item count (text_of (c ∷ []))) (ap (λ v. cond v (rest_of []) []) i)
      (moved [] refl (ap (λ v. last_item count (cond v (c ∷ []) (c ∷ []))) i) (alone count c p))
  | inr p ↦
      let i : inner c ≡ false = ap (λ v. v || nat_le 112 c && nat_le c 121) (h c [] refl) ∙ p in
      at_rest (item_after count (c ∷ [])) (last_item count (text_of (c ∷ []))) (ap (λ v. cond v (rest_of []) []) i)
      (moved [] refl (ap (λ v. last_item count (cond v (c ∷ []) (c ∷ []))) i) (one_byte count c [] p))
]
last_found count (c ∷ d ∷ u) h = elim (cases_Bool (nat_le 112 c && nat_le c 121)) [
  | inl p ↦
      let i : inner c ≡ true = ap (λ v. v || nat_le 112 c && nat_le c 121) (h c (d ∷ u) refl) ∙ p in
      let rest : rest_of (c ∷ d ∷ u) ≡ rest_of (d ∷ u) = ap (λ v. cond v (rest_of (d ∷ u)) (d ∷ u)) i in
      let text : text_of (c ∷ d ∷ u) ≡ c ∷ text_of (d ∷ u) = ap (λ v. cond v (c ∷ text_of (d ∷ u)) (c ∷ [])) i in
      elim (cases_Bool (inner d)) [
        | inl k ↦
            moved (rest_of (c ∷ d ∷ u)) refl (ap (last_item count) (text ∙ ap (λ v. c ∷ cond v (d ∷ text_of u) (d ∷ [])) k))
            (not_two count c d u (rest_of (c ∷ d ∷ u)) p k)
        | inr k ↦
            at_rest (item_after count (c ∷ d ∷ u)) (last_item count (text_of (c ∷ d ∷ u))) (rest ∙ ap (λ v. cond v (rest_of u) u) k)
            (moved u refl (ap (last_item count) (text ∙ ap (λ v. c ∷ cond v (d ∷ text_of u) (d ∷ [])) k)) (two_bytes count c d u [] p (prefixed_is c d p)))
      ]
  | inr p ↦
      let i : inner c ≡ false = ap (λ v. v || nat_le 112 c && nat_le c 121) (h c (d ∷ u) refl) ∙ p in
      at_rest (item_after count (c ∷ d ∷ u)) (last_item count (text_of (c ∷ d ∷ u))) (ap (λ v. cond v (rest_of (d ∷ u)) (d ∷ u)) i)
      (moved (d ∷ u) refl (ap (λ v. last_item count (cond v (c ∷ text_of (d ∷ u)) (c ∷ []))) i) (one_byte count c (d ∷ u) p))
]

count_step : (rest u : List ℕ) (digits : List ℕ) → ((count : ℕ) → Found rest (item_after count u) (last_item count (text_of u)))
    → Found rest (item_with_digits 62 digits u) (claimed_count_of digits >>= λ count. last_item count (text_of u))
count_step rest u [] f = f 1
count_step rest u (d ∷ digits) f = by (value_of (d ∷ digits) == 0) (nat_lt (2 ^ 62) (value_of (d ∷ digits)))
  where
    by : (v w : Bool) → Found rest (cond v (Broken kinds.ZeroCount) (cond w (Broken kinds.TooLarge) (item_after (value_of (d ∷ digits)) u)))
        (cond v (Err kinds.ZeroCount) (cond w (Err kinds.TooLarge) (Ok (value_of (d ∷ digits)))) >>= λ count. last_item count (text_of u))
    by true w = broken kinds.ZeroCount
    by false true = broken kinds.TooLarge
    by false false = f (value_of (d ∷ digits))

-- what is found in an item's place, and what the first text says
pub item_found : (bytes : List ℕ) → Found (rest_of bytes) (item_with_digits 62 (leading_digits bytes) (after_digits_of bytes)) (claimed_item_of (text_of bytes))
item_found bytes =
    at_rest (item_with_digits 62 (leading_digits bytes) (after_digits_of bytes)) (claimed_item_of (text_of bytes)) (rests_are bytes)
    (moved (rest_of (after_digits_of bytes)) refl
    (ap (λ (digits : List ℕ). claimed_count_of digits >>= λ count. last_item count (behind (text_of bytes))) (prefixes_are bytes)
    ∙ ap (λ (last : List ℕ). claimed_count_of (leading_digits bytes) >>= λ count. last_item count last) (behinds_are bytes))
    (count_step (rest_of (after_digits_of bytes)) (after_digits_of bytes) (leading_digits bytes)
    (λ count. last_found count (after_digits_of bytes) (no_digit bytes))))
