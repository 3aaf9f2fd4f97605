-- A line of data says what it says in the layer below.
use Rattle.std.proofs.Common.{◌≡◌, ℕ, List, [], ◌∷◌, ◌++◌, Bool, true, false, cond, ◌&&◌, ◌||◌, refl, ap, ◌∙◌, sym, subst, arith, append_assoc, ◌⊎◌, inl, inr, ◌==◌, bytes_eq, codes, Option, None, Result, Ok, Err, append-nil}
use Rattle.std.proofs.lemmas.Bool.Decides.{nat_tests}
use Rattle.std.proofs.lemmas.Bool.{cases_Bool}
use Rattle.life_rle.proofs.Progress.{option_or-both}
use Rattle.life_base.specs.Text.{is_whitespace, is_blank, trim_start}
use Rattle.life_base.specs.declared.kind.Kind.{Kind}
use Rattle.life_rle.specs.declared.item.Item.{Item as LayerItem}
use Rattle.life_rle.specs.Items.{Next, End, Mark, Spelled, Broken, next_of, Spells, item_in as layer_item_in, leading_digits, after_digits_of, item_with_digits}
use Rattle.life_rle.specs.Pattern.{Rle as LayerRle, placed_item, placed_after, placed_fault, first_fault}
use Rattle.claims.specs.Outcomes.{◌>>=◌}
use Rattle.claims.specs.Rle.{Item, ClaimedRle, Lines, after_header, after_end, claimed_item_of, with_item, with_texts, claimed_texts_of}
use Rattle.claims.proofs.RlePlane.{file_in, item_answer, with_item_is}
use Rattle.claims.proofs.RleTexts.{text_of, rest_of, texts_cut, text_begins, Found, spelled, broken, item_found}
use Rattle.life_base.proofs.Texts.{not_blank}

no_mark : (b : ℕ) (tail : List ℕ) → (b == 33) ≡ false → bytes_eq (b ∷ tail) (codes "!") ≡ false
no_mark b tail h = ap (λ v. v && bytes_eq tail []) h

-- a byte of whitespace is a text of its own
space_text : (b : ℕ) (bytes : List ℕ) → is_whitespace b ≡ true → claimed_texts_of (b ∷ bytes) ≡ (b ∷ []) ∷ claimed_texts_of bytes
space_text b bytes h = by (three (b == 32) (b == 9) (b == 13) refl refl refl h)
  where
    three : (u v w : Bool) → (b == 32) ≡ u → (b == 9) ≡ v → (b == 13) ≡ w → (u || v || w) ≡ true → (b ≡ 32) ⊎ ((b ≡ 9) ⊎ (b ≡ 13))
    three true v w e f g k = let same : b ≡ 32 = grind (arith, nat_tests) in inl same
    three false true w e f g k = let same : b ≡ 9 = grind (arith, nat_tests) in inr (inl same)
    three false false true e f g k = let same : b ≡ 13 = grind (arith, nat_tests) in inr (inr same)
    three false false false e f g k = cc

    at : (c : ℕ) → claimed_texts_of (c ∷ bytes) ≡ (c ∷ []) ∷ claimed_texts_of bytes → b ≡ c → claimed_texts_of (b ∷ bytes) ≡ (b ∷ []) ∷ claimed_texts_of bytes
    at c e same = subst (λ n. claimed_texts_of (n ∷ bytes) ≡ (n ∷ []) ∷ claimed_texts_of bytes) (sym same) e

    by : (b ≡ 32) ⊎ ((b ≡ 9) ⊎ (b ≡ 13)) → claimed_texts_of (b ∷ bytes) ≡ (b ∷ []) ∷ claimed_texts_of bytes
    by (inl e) = at 32 refl e
    by (inr (inl e)) = at 9 refl e
    by (inr (inr e)) = at 13 refl e

-- whitespace at the beginning is passed over
spaces : (file : ClaimedRle) (bytes : List ℕ) → with_texts file (claimed_texts_of bytes) ≡ with_texts file (claimed_texts_of (trim_start bytes))
spaces file [] = refl
spaces file (b ∷ bytes) = elim (cases_Bool (is_whitespace b)) [
  | inl h ↦
      let e : trim_start (b ∷ bytes) ≡ trim_start bytes = ap (λ v. cond v (trim_start bytes) (b ∷ bytes)) h in
      ap (with_texts file) (space_text b bytes h) ∙ blank_first (claimed_texts_of bytes) (ap (λ v. v && true) h) ∙ spaces file bytes
      ∙ ap (λ (t : List ℕ). with_texts file (claimed_texts_of t)) (sym e)
  | inr h ↦ ap (λ (t : List ℕ). with_texts file (claimed_texts_of t)) (sym (ap (λ v. cond v (trim_start bytes) (b ∷ bytes)) h))
]
  where
    blank_first : (texts : List (List ℕ)) → is_blank (b ∷ []) ≡ true → with_texts file ((b ∷ []) ∷ texts) ≡ with_texts file texts
    blank_first texts e =
        ap (λ v. cond v (with_texts file texts)
        (cond (bytes_eq (b ∷ []) (codes "!")) (Ok (after_end file))
        (claimed_item_of (b ∷ []) >>= λ item. with_item file item >>= λ next. with_texts next texts))) e

-- what stands at the beginning after whitespace is none
trimmed_first : (bytes : List ℕ) (b : ℕ) (rest : List ℕ) → trim_start bytes ≡ b ∷ rest → is_whitespace b ≡ false
trimmed_first [] b rest e = cc
trimmed_first (a ∷ bytes) b rest e = elim (cases_Bool (is_whitespace a)) [
  | inl h ↦ trimmed_first bytes b rest (sym (ap (λ v. cond v (trim_start bytes) (a ∷ bytes)) h) ∙ e)
  | inr h ↦
      let k : a ∷ bytes ≡ b ∷ rest = sym (ap (λ v. cond v (trim_start bytes) (a ∷ bytes)) h) ∙ e in
      let same : a ≡ b = cc in ap is_whitespace (sym same) ∙ h
]

-- what stands in an item's place, and what the line says from there
abbrev pub from_here : LayerRle → Next → Result Lines Kind
from_here file End = Ok (after_header (file_in file))
from_here file Mark = Ok (after_end (file_in file))
from_here file (Broken kind) = Err kind
from_here file (Spelled item rest) =
    item_answer file item (placed_fault 62 file.rule (placed_item file.position file.items item)) >>= λ now. with_texts now (claimed_texts_of rest)

found_here : (file : LayerRle) (rest : List ℕ) (next : Next) (r : Result Item Kind) → Found rest next r
    → (r >>= λ item. with_item (file_in file) item >>= λ now. with_texts now (claimed_texts_of rest)) ≡ from_here file next
found_here file rest next r (broken kind) = refl
found_here file rest next r (spelled item) = ap (λ (x : Result ClaimedRle Kind). x >>= λ now. with_texts now (claimed_texts_of rest)) (with_item_is file item)

marked : (file : LayerRle) (b : ℕ) (u : List ℕ) → b ≡ 33 → with_texts (file_in file) (claimed_texts_of (b ∷ u)) ≡ from_here file (layer_item_in 62 (b ∷ u))
marked file b u e = subst (λ c. with_texts (file_in file) (claimed_texts_of (c ∷ u)) ≡ from_here file (layer_item_in 62 (c ∷ u))) (sym e) refl

opened : (file : ClaimedRle) (b : ℕ) (u : List ℕ) → is_whitespace b ≡ false → (b == 33) ≡ false
    → with_texts file (claimed_texts_of (b ∷ u))
    ≡ (claimed_item_of (text_of (b ∷ u)) >>= λ item. with_item file item >>= λ now. with_texts now (claimed_texts_of (rest_of (b ∷ u))))
opened file b u w m =
    let t = text_begins b u in
    ap (with_texts file) (texts_cut b u)
    ∙ cases (text_of (b ∷ u)) (ap is_blank t.1 ∙ not_blank b t.0 w) (ap (λ (x : List ℕ). bytes_eq x (codes "!")) t.1 ∙ no_mark b t.0 m)
  where
    cases : (text : List ℕ) → is_blank text ≡ false → bytes_eq text (codes "!") ≡ false
        → with_texts file (text ∷ claimed_texts_of (rest_of (b ∷ u)))
        ≡ (claimed_item_of text >>= λ item. with_item file item >>= λ now. with_texts now (claimed_texts_of (rest_of (b ∷ u))))
    cases text e f = rw (e, f) refl

without_space : (file : LayerRle) (u : List ℕ) → ((b : ℕ) (rest : List ℕ) → u ≡ b ∷ rest → is_whitespace b ≡ false)
    → with_texts (file_in file) (claimed_texts_of u) ≡ from_here file (layer_item_in 62 u)
without_space file [] w = refl
without_space file (b ∷ u) w = elim (cases_Bool (b == 33)) [
  | inl m ↦ let e : b ≡ 33 = grind (arith, nat_tests) in marked file b u e
  | inr m ↦
      let e : layer_item_in 62 (b ∷ u) ≡ item_with_digits 62 (leading_digits (b ∷ u)) (after_digits_of (b ∷ u)) =
      ap (λ v. cond v Mark (item_with_digits 62 (leading_digits (b ∷ u)) (after_digits_of (b ∷ u)))) m in
      opened (file_in file) b u (w b u refl) m
      ∙ found_here file (rest_of (b ∷ u)) (item_with_digits 62 (leading_digits (b ∷ u)) (after_digits_of (b ∷ u))) (claimed_item_of (text_of (b ∷ u)))
      (item_found (b ∷ u))
      ∙ ap (from_here file) (sym e)
]

-- the texts of a line say what stands in the next item's place
line_from_here : (file : LayerRle) (bytes : List ℕ) → with_texts (file_in file) (claimed_texts_of bytes) ≡ from_here file (next_of 62 bytes)
line_from_here file bytes = spaces (file_in file) bytes ∙ without_space file (trim_start bytes) (trimmed_first bytes)

-- ---- items one after another

-- a file with more items
abbrev pub with_items : LayerRle → List LayerItem → LayerRle
with_items file items = record file { items = file.items ++ items }

pub with_none : (file : LayerRle) → with_items file [] ≡ file
with_none file = ap (λ (items : List LayerItem). record file { items = items }) (append-nil file.items)

with_more : (file : LayerRle) (item : LayerItem) (items : List LayerItem)
    → with_items (with_items file (item ∷ [])) items ≡ with_items file (item ∷ items)
with_more file item items = ap (λ (t : List LayerItem). record file { items = t }) (append_assoc file.items (item ∷ []) items)

-- the items that bytes spell, none of which breaks a rule, and what comes after them
pub spelled_is : (items : List LayerItem) (bytes : List ℕ) (file : LayerRle) (last : Next) → Spells 62 bytes items last
    → first_fault 62 file.rule (placed_after file.position file.items items) ≡ None
    → with_texts (file_in file) (claimed_texts_of bytes) ≡ from_here (with_items file items) last
spelled_is [] bytes file last e sound =
    line_from_here file bytes ∙ ap (from_here file) e ∙ ap (λ (f : LayerRle). from_here f last) (sym (with_none file))
spelled_is (item ∷ items) bytes file last s sound =
    let none = option_or-both (placed_fault 62 file.rule (placed_item file.position file.items item))
    (first_fault 62 file.rule (placed_after file.position (file.items ++ item ∷ []) items)) sound in
    line_from_here file bytes ∙ ap (from_here file) s.1
    ∙ ap (λ (o : Option Kind). item_answer file item o >>= λ now. with_texts now (claimed_texts_of s.0)) none.0
    ∙ spelled_is items s.0 (with_items file (item ∷ [])) last s.2 none.1
    ∙ ap (λ (f : LayerRle). from_here f last) (with_more file item items)
