-- A line spells items exactly if it is their texts with whitespace between.
use Rattle.std.proofs.Common.{◌≡◌, ◌↔◌, ℕ, ◌+◌, ◌-◌, ◌*◌, ◌<◌, ◌≤◌, true, false, cond, ◌&&◌, ◌||◌, List, [], ◌∷◌, ◌++◌, refl, sym, ap, ◌∙◌, subst, inl, inr, ◌⊎◌, Some, None, Option, arith, append_assoc, eqb, ltb, leb, take-append-drop}
use Rattle.std.proofs.lemmas.Bool.Decides.{nat_tests}
use Rattle.std.proofs.lemmas.Bool.{and_parts}
use Rattle.std.specs.Char.{is_ascii_digit}
use Rattle.std.specs.List.{list_all, prefix_len}
use Rattle.life_base.specs.declared.kind.Kind.TheVariants.{ZeroCount, TooLarge}
use Rattle.life_base.specs.Text.{is_whitespace, is_blank, trim_start, value_of}
use Rattle.std.specs.Option.{option_or}
use Rattle.life_rle.specs.States.{leading_state, with_rest, single_state, prefixed_state, prefixed_number}
use Rattle.life_rle.specs.declared.item.Item.{Item}
use Rattle.life_rle.specs.declared.item.Item.TheVariants.{Cells, RowEnds}
use Rattle.life_rle.specs.Plane.{most_count}
use Rattle.life_rle.specs.Items.{leading_digits, after_digits_of, Next, End, Mark, Spelled, Broken, next_of_cells, item_after, item_with_digits, item_in, next_of, Spells}
use Rattle.life_rle.specs.Plain.{IsStateText, letter_b, dot, letter_o, letter, prefixed, IsCountText, IsItemText, IsTextOfItems, ItemsArePlain}
use Rattle.life_base.proofs.PrefixDigits.{list_all-prefix}
use Rattle.life_base.proofs.Texts.{blank_prefix}
use Rattle.life_rle.proofs.Texts.{IsTag, IsTag-letter, next_of-tag, next_of-digits}
use Rattle.life_rle.proofs.StatesRead.{one-byte, two-bytes}

next_of-count : (level count : ℕ) (digits tag : List ℕ) → IsCountText level digits count → IsTag tag → next_of level (digits ++ tag) ≡ item_after count tag
next_of-count level count digits tag (inl h) t =
    ap (λ (ds : List ℕ). next_of level (ds ++ tag)) h.0 ∙ next_of-tag level tag t ∙ ap (λ n. item_after n tag) (sym h.1)
next_of-count level count digits tag (inr h) t = next_of-digits level count digits tag h.0 h.1 h.2 h.3 t

-- the text of a state is read as that state
single-letter : (place : ℕ) → place < 24 → single_state (65 + place) ≡ Some (place + 1)
single-letter place h = grind (arith, nat_tests)

single-prefix : (prefix : ℕ) → prefix < 10 → single_state (112 + prefix) ≡ None
single-prefix prefix h = grind (arith, nat_tests)

prefixed_state-places : (prefix place state : ℕ) → prefix < 10 → place < 24 → state ≡ 24 * (prefix + 1) + (place + 1) → state ≤ 255
    → prefixed_state (112 + prefix) (65 + place) ≡ Some state
prefixed_state-places prefix place state h k e low = grind (arith, nat_tests)

item_behind-state : (n b state : ℕ) (bytes rest : List ℕ) → eqb b 36 ≡ false → leading_state (b ∷ bytes) ≡ Some (state, rest)
    → item_after n (b ∷ bytes) ≡ Spelled (Cells n state) rest
item_behind-state n b state bytes rest h k = ap (λ t. cond t (Spelled (RowEnds n) bytes) (next_of_cells n (leading_state (b ∷ bytes)))) h
    ∙ ap (next_of_cells n) k

-- bytes that begin with the text of an item without its count
abbrev pub IsRead : ℕ → List ℕ → Item → List ℕ → Type 0
IsRead count bytes item rest = IsTag bytes × (item_after count bytes ≡ Spelled item rest)

IsRead-single : (count b state : ℕ) (rest : List ℕ) → IsTag (b ∷ rest) → eqb b 36 ≡ false → single_state b ≡ Some state
    → IsRead count (b ∷ rest) (Cells count state) rest
IsRead-single count b state rest t h k = (t, item_behind-state count b state rest rest h (one-byte b state rest k))

pub IsRead-text : (count state : ℕ) (text rest : List ℕ) → IsStateText text state → IsRead count (text ++ rest) (Cells count state) rest
IsRead-text count state text rest (letter_b e v) =
    subst (λ (t : List ℕ). IsRead count (t ++ rest) (Cells count state) rest) (sym e)
    (IsRead-single count 98 state rest (refl, refl, refl) refl (ap Some (sym v)))
IsRead-text count state text rest (dot e v) =
    subst (λ (t : List ℕ). IsRead count (t ++ rest) (Cells count state) rest) (sym e)
    (IsRead-single count 46 state rest (refl, refl, refl) refl (ap Some (sym v)))
IsRead-text count state text rest (letter_o e v) =
    subst (λ (t : List ℕ). IsRead count (t ++ rest) (Cells count state) rest) (sym e)
    (IsRead-single count 111 state rest (refl, refl, refl) refl (ap Some (sym v)))
IsRead-text count state text rest (letter place h e v) =
    subst (λ (t : List ℕ). IsRead count (t ++ rest) (Cells count state) rest) (sym e)
    (IsRead-single count (65 + place) state rest (IsTag-letter (65 + place) rest (omega arith)) (grind (arith, nat_tests))
    (single-letter place h ∙ ap Some (sym v)))
IsRead-text count state text rest (prefixed prefix place h k e v low) =
    subst (λ (t : List ℕ). IsRead count (t ++ rest) (Cells count state) rest) (sym e) (
      IsTag-letter (112 + prefix) ((65 + place) ∷ rest) (omega arith),
      item_behind-state count (112 + prefix) state ((65 + place) ∷ rest) rest (grind (arith, nat_tests))
          (two-bytes (112 + prefix) (65 + place) state rest (single-prefix prefix h) (prefixed_state-places prefix place state h k v low)),
    )

-- the text of an item, with whitespace before it, is read as that item
next_of-item : (level : ℕ) (space text more : List ℕ) (item : Item) → is_blank space ≡ true → IsItemText level text item
    → next_of level (space ++ (text ++ more)) ≡ Spelled item more
next_of-item level space text more (Cells count state) h i =
    let r = IsRead-text count state i.1 more i.4 in
    ap (item_in level) (blank_prefix space (text ++ more) h)
    ∙ ap (λ (t : List ℕ). next_of level (t ++ more)) i.2
    ∙ ap (next_of level) (append_assoc i.0 i.1 more)
    ∙ next_of-count level count i.0 (i.1 ++ more) i.3 r.0
    ∙ r.1
next_of-item level space text more (RowEnds count) h i =
    ap (item_in level) (blank_prefix space (text ++ more) h)
    ∙ ap (λ (t : List ℕ). next_of level (t ++ more)) i.2
    ∙ ap (next_of level) (append_assoc i.0 i.1 more)
    ∙ ap (λ (t : List ℕ). next_of level (i.0 ++ (t ++ more))) i.4
    ∙ next_of-count level count i.0 (36 ∷ more) i.3 (refl, refl, refl)

-- so the texts of items spell them
pub IsTextOf-Spells : (level : ℕ) (items : List Item) (line rest : List ℕ) (last : Next) → next_of level rest ≡ last → IsTextOfItems level line items rest
    → Spells level line items last
IsTextOf-Spells level [] line rest last h i = ap (next_of level) i.2 ∙ ap (item_in level) (blank_prefix i.0 rest i.1) ∙ h
IsTextOf-Spells level (item ∷ items) line rest last h i =
    (i.2, ap (next_of level) i.5 ∙ next_of-item level i.0 i.1 i.2 item i.3 i.4, IsTextOf-Spells level items i.2 rest last h i.6)

-- what stands at the beginning of a text without its whitespace is whitespace
pub indented : (text : List ℕ) → (space : List ℕ) × (is_blank space ≡ true) × (text ≡ space ++ trim_start text)
indented [] = ([], refl, refl)
indented (b ∷ text) =
    elim (is_whitespace b) as (λ t. is_whitespace b ≡ t → (space : List ℕ) × (is_blank space ≡ true)
    × (b ∷ text ≡ space ++ cond t (trim_start text) (b ∷ text))) [
      | true ↦ λ e. let h = indented text in (b ∷ h.0, ap (λ t. t && is_blank h.0) e ∙ h.1, ap (λ (t : List ℕ). b ∷ t) h.2)
      | false ↦ λ e. ([], refl, refl)
    ] refl

-- the text of a state and what comes after it
abbrev StateAt : List ℕ → ℕ → List ℕ → Type 0
StateAt bytes state rest = (text : List ℕ) × IsStateText text state × (bytes ≡ text ++ rest)

text_of-single : (b state : ℕ) → single_state b ≡ Some state → IsStateText (b ∷ []) state
text_of-single b state =
    elim (eqb b 98 || eqb b 46) as
    (λ t. (eqb b 98 || eqb b 46) ≡ t → cond t (Some 0) (cond (eqb b 111) (Some 1) (cond (leb 65 b && leb b 88) (Some (b - 64)) None)) ≡ Some state
    → IsStateText (b ∷ []) state) [
      | true ↦ λ e h. text_of-zero b state e (some-same h)
      | false ↦ λ _. elim (eqb b 111) as (λ t. eqb b 111 ≡ t → cond t (Some 1) (cond (leb 65 b && leb b 88) (Some (b - 64)) None) ≡ Some state
          → IsStateText (b ∷ []) state) [
            | true ↦ λ e h. letter_o (ap (λ (n : ℕ). n ∷ []) (grind (arith, nat_tests, e))) (sym (some-same h))
            | false ↦ λ _. elim (leb 65 b && leb b 88)
                as (λ t. (leb 65 b && leb b 88) ≡ t → cond t (Some (b - 64)) None ≡ Some state → IsStateText (b ∷ []) state) [
                  | true ↦ λ e h. text_of-letter b state e (some-same h)
                  | false ↦ λ _ h. cc
                ] refl
          ] refl
    ] refl
  where
    some-same : {m n : ℕ} → Some m ≡ Some n → m ≡ n
    some-same h = cc

    text_of-zero : (b state : ℕ) → (eqb b 98 || eqb b 46) ≡ true → 0 ≡ state → IsStateText (b ∷ []) state
    text_of-zero b state e h =
        elim (eqb b 98) as (λ t. eqb b 98 ≡ t → (t || eqb b 46) ≡ true → IsStateText (b ∷ []) state) [
          | true ↦ λ k _. letter_b (ap (λ (n : ℕ). n ∷ []) (grind (arith, nat_tests, k))) (sym h)
          | false ↦ λ _ k. dot (ap (λ (n : ℕ). n ∷ []) (grind (arith, nat_tests, k))) (sym h)
        ] refl e

    text_of-letter : (b state : ℕ) → (leb 65 b && leb b 88) ≡ true → b - 64 ≡ state → IsStateText (b ∷ []) state
    text_of-letter b state e h =
        let parts = and_parts (leb 65 b) (leb b 88) e in
        let low : 65 ≤ b = grind (arith, nat_tests) in
        let high : b ≤ 88 = grind (arith, nat_tests) in
        letter (b - 65) (omega (arith, low, high)) (ap (λ (n : ℕ). n ∷ []) (omega (arith, low))) (omega (arith, low, h))

text_of-prefixed : (b c state : ℕ) → prefixed_state b c ≡ Some state → IsStateText (b ∷ c ∷ []) state
text_of-prefixed b c state =
    elim ((leb 112 b && leb b 121) && (leb 65 c && leb c 88) && leb (prefixed_number b c) 255)
    as (λ t. ((leb 112 b && leb b 121) && (leb 65 c && leb c 88) && leb (prefixed_number b c) 255) ≡ t → cond t (Some (prefixed_number b c)) None ≡ Some state
    → IsStateText (b ∷ c ∷ []) state) [
      | true ↦ λ e h.
          let low : 112 ≤ b = grind (arith, nat_tests, e) in
          let high : b ≤ 121 = grind (arith, nat_tests, e) in
          let from : 65 ≤ c = grind (arith, nat_tests, e) in
          let to : c ≤ 88 = grind (arith, nat_tests, e) in
          let small : prefixed_number b c ≤ 255 = grind (arith, nat_tests, e) in
          let same : prefixed_number b c ≡ state = cc in
          let one : b ≡ 112 + (b - 112) = omega (arith, low) in
          let two : c ≡ 65 + (c - 65) = omega (arith, from) in
          prefixed (b - 112) (c - 65) (omega (arith, low, high)) (omega (arith, from, to))
          (ap (λ (n : ℕ). n ∷ c ∷ []) one ∙ ap (λ (n : ℕ). (112 + (b - 112)) ∷ n ∷ []) two)
          (omega (arith, same, low, from)) (omega (arith, same, small))
      | false ↦ λ _ h. cc
    ] refl

found-single : (b state : ℕ) (rest behind : List ℕ) → with_rest (single_state b) behind ≡ Some (state, rest) → StateAt (b ∷ behind) state rest
found-single b state rest behind h = step (single_state b) refl h
  where
    step : (o : Option ℕ) → single_state b ≡ o → with_rest o behind ≡ Some (state, rest) → StateAt (b ∷ behind) state rest
    step None e h = cc
    step (Some s) e h =
        let p : (s, behind) ≡ (state, rest) = cc in
        let v : s ≡ state = ap (λ (q : ℕ × List ℕ). q.0) p in
        let r : behind ≡ rest = ap (λ (q : ℕ × List ℕ). q.1) p in
        (b ∷ [], text_of-single b state (e ∙ ap Some v), ap (λ (t : List ℕ). b ∷ t) r)

found-prefixed : (b c state : ℕ) (rest behind : List ℕ) → with_rest (prefixed_state b c) behind ≡ Some (state, rest) → StateAt (b ∷ c ∷ behind) state rest
found-prefixed b c state rest behind h = step (prefixed_state b c) refl h
  where
    step : (o : Option ℕ) → prefixed_state b c ≡ o → with_rest o behind ≡ Some (state, rest) → StateAt (b ∷ c ∷ behind) state rest
    step None e h = cc
    step (Some s) e h =
        let p : (s, behind) ≡ (state, rest) = cc in
        let v : s ≡ state = ap (λ (q : ℕ × List ℕ). q.0) p in
        let r : behind ≡ rest = ap (λ (q : ℕ × List ℕ). q.1) p in
        (b ∷ c ∷ [], text_of-prefixed b c state (e ∙ ap Some v), ap (λ (t : List ℕ). b ∷ c ∷ t) r)

first-either : (f g : Option (ℕ × List ℕ)) (v : ℕ × List ℕ) → option_or f g ≡ Some v → (f ≡ Some v) ⊎ (g ≡ Some v)
first-either None g v h = inr h
first-either (Some w) g v h = inl h

pub state_at-text : (bytes rest : List ℕ) (state : ℕ) → leading_state bytes ≡ Some (state, rest) → StateAt bytes state rest
state_at-text [] rest state h = cc
state_at-text (b ∷ []) rest state h = found-single b state rest [] h
state_at-text (b ∷ c ∷ bytes) rest state h = pick (first-either (with_rest (single_state b) (c ∷ bytes)) (with_rest (prefixed_state b c) bytes) (state, rest) h)
  where
    pick : (with_rest (single_state b) (c ∷ bytes) ≡ Some (state, rest)) ⊎ (with_rest (prefixed_state b c) bytes ≡ Some (state, rest))
        → StateAt (b ∷ c ∷ bytes) state rest
    pick (inl e) = found-single b state rest (c ∷ bytes) e
    pick (inr e) = found-prefixed b c state rest bytes e

-- what an item's place holds, if it is an item: its text after the digits
abbrev IsFound : ℕ → List ℕ → List ℕ → Next → Type 0
IsFound level digits bytes End = ⊥
IsFound level digits bytes Mark = ⊥
IsFound level digits bytes (Broken kind) = Unit {0}
IsFound level digits bytes (Spelled item rest) = (last : List ℕ) × IsItemText level (digits ++ last) item × (bytes ≡ last ++ rest)

cells_of-found : (level count : ℕ) (digits bytes : List ℕ) → IsCountText level digits count → (o : Option (ℕ × List ℕ)) → leading_state bytes ≡ o
    → IsFound level digits bytes (next_of_cells count o)
cells_of-found level count digits bytes c None e = tt
cells_of-found level count digits bytes c (Some (state, rest)) e =
    let s = state_at-text bytes rest state e in
    (s.0, (digits, s.0, refl, c, s.1), s.2)

item_behind-found : (level count : ℕ) (digits bytes : List ℕ) → IsCountText level digits count → IsFound level digits bytes (item_after count bytes)
item_behind-found level count digits [] c = tt
item_behind-found level count digits (b ∷ bytes) c =
    elim (eqb b 36) as (λ t. eqb b 36 ≡ t → IsFound level digits (b ∷ bytes)
    (cond t (Spelled (RowEnds count) bytes) (next_of_cells count (leading_state (b ∷ bytes))))) [
      | true ↦ λ e. let v : b ≡ 36 = grind (arith, nat_tests, e) in (36 ∷ [], (digits, 36 ∷ [], refl, c, refl), ap (λ (n : ℕ). n ∷ bytes) v)
      | false ↦ λ e. cells_of-found level count digits (b ∷ bytes) c (leading_state (b ∷ bytes)) refl
    ] refl

counted-found : (level : ℕ) (digits bytes : List ℕ) → list_all is_ascii_digit digits ≡ true → IsFound level digits bytes (item_with_digits level digits bytes)
counted-found level [] bytes h = item_behind-found level 1 [] bytes (inl (refl, refl))
counted-found level (d ∷ digits) bytes h =
    let n = value_of (d ∷ digits) in
    elim (eqb n 0) as (λ t. eqb n 0 ≡ t
    → IsFound level (d ∷ digits) bytes (cond t (Broken ZeroCount) (cond (ltb (most_count level) n) (Broken TooLarge) (item_after n bytes)))) [
      | true ↦ λ _. tt
      | false ↦ λ e. elim (ltb (most_count level) n)
          as (λ t. ltb (most_count level) n ≡ t → IsFound level (d ∷ digits) bytes (cond t (Broken TooLarge) (item_after n bytes))) [
            | true ↦ λ _. tt
            | false ↦ λ f. item_behind-found level n (d ∷ digits) bytes (inr (h, refl, grind (arith, nat_tests, e), grind (arith, nat_tests, f)))
          ] refl
    ] refl

-- what an item's place holds: the whole of it
abbrev IsHeld : ℕ → List ℕ → Next → Type 0
IsHeld level bytes End = bytes ≡ []
IsHeld level bytes Mark = (free : List ℕ) × (bytes ≡ 33 ∷ free)
IsHeld level bytes (Broken kind) = Unit {0}
IsHeld level bytes (Spelled item rest) = (text : List ℕ) × IsItemText level text item × (bytes ≡ text ++ rest)

held : (level : ℕ) (digits behind bytes : List ℕ) (next : Next) → bytes ≡ digits ++ behind → IsFound level digits behind next → IsHeld level bytes next
held level digits behind bytes End e h = absurd h
held level digits behind bytes Mark e h = absurd h
held level digits behind bytes (Broken kind) e h = tt
held level digits behind bytes (Spelled item rest) e h = (digits ++ h.0, h.1, e ∙ ap (λ (t : List ℕ). digits ++ t) h.2 ∙ sym (append_assoc digits h.0 rest))

item_in-held : (level : ℕ) (bytes : List ℕ) → IsHeld level bytes (item_in level bytes)
item_in-held level [] = refl
item_in-held level (b ∷ bytes) =
    let all = b ∷ bytes in
    elim (eqb b 33) as (λ t. eqb b 33 ≡ t → IsHeld level all (cond t Mark (item_with_digits level (leading_digits all) (after_digits_of all)))) [
      | true ↦ λ e. let v : b ≡ 33 = grind (arith, nat_tests, e) in (bytes, ap (λ (n : ℕ). n ∷ bytes) v)
      | false ↦ λ e. held level (leading_digits all) (after_digits_of all) all (item_with_digits level (leading_digits all) (after_digits_of all))
          (sym (take-append-drop (prefix_len is_ascii_digit all) all))
          (counted-found level (leading_digits all) (after_digits_of all) (list_all-prefix is_ascii_digit all))
    ] refl

next_of-held : (level : ℕ) (bytes : List ℕ) (next : Next) → next_of level bytes ≡ next → IsHeld level (trim_start bytes) next
next_of-held level bytes next e = subst (IsHeld level (trim_start bytes)) e (item_in-held level (trim_start bytes))

-- so a line that spells items is their texts
pub Spells-IsTextOf : (level : ℕ) (items : List Item) (line : List ℕ) (last : Next) (Rest : List ℕ → Type 0)
    → ((bytes : List ℕ) → next_of level bytes ≡ last → Rest (trim_start bytes)) → Spells level line items last → (rest : List ℕ) × Rest rest
    × IsTextOfItems level line items rest
Spells-IsTextOf level [] line last Rest f h = (trim_start line, f line h, indented line)
Spells-IsTextOf level (item ∷ items) line last Rest f h =
    let i = indented line in
    let k = next_of-held level line (Spelled item h.0) h.1 in
    let more = Spells-IsTextOf level items h.0 last Rest f h.2 in
    (more.0, more.1, (i.0, k.0, h.0, i.1, k.1, i.2 ∙ ap (λ (t : List ℕ). i.0 ++ t) k.2, more.2))

-- the same after items, of one item more
Spells-item : (level : ℕ) (line : List ℕ) (items : List Item) (item : Item) (rest : List ℕ) → Spells level line items (Spelled item rest)
    ↔ ((text : List ℕ) × IsItemText level text item × IsTextOfItems level line items (text ++ rest))
Spells-item level line items item rest = (
  (λ h. let k = Spells-IsTextOf level items line (Spelled item rest) (λ bytes. (text : List ℕ) × IsItemText level text item × (bytes ≡ text ++ rest))
      (λ bytes e. next_of-held level bytes (Spelled item rest) e) h in
      (k.1.0, k.1.1, subst (IsTextOfItems level line items) k.1.2 k.2)),
  (λ h. IsTextOf-Spells level items line (h.0 ++ rest) (Spelled item rest) (next_of-item level [] h.0 rest item refl h.1) h.2),
)

pub items_are_plain : ItemsArePlain
items_are_plain level line items =
    let ended = Spells-IsTextOf level items line End (λ rest. rest ≡ []) (λ bytes e. next_of-held level bytes End e) in
    let marked = Spells-IsTextOf level items line Mark (λ rest. (free : List ℕ) × (rest ≡ 33 ∷ free)) (λ bytes e. next_of-held level bytes Mark e) in (
      ((λ h. let k = ended h in subst (IsTextOfItems level line items) k.1 k.2), (λ h. IsTextOf-Spells level items line [] End refl h)),
      ((λ h. let k = marked h in (k.1.0, subst (IsTextOfItems level line items) k.1.1 k.2)), (λ h. IsTextOf-Spells level items line (33 ∷ h.0) Mark refl h.1)),
      (λ item rest. Spells-item level line items item rest),
    )
