-- What is written on lines is read on lines.
use Rattle.std.proofs.Common.{◌≡◌, ℕ, ◌+◌, ◌-◌, ◌/◌, ◌%◌, ◌^◌, decimal, ◌≤◌, ◌||◌, ◌⊎◌, codes, take, drop, Err, Result, inl, inr, Bool, true, false, cond, List, [], ◌∷◌, ◌++◌, length, map, refl, sym, ap, ◌∙◌, subst, Ok, None, arith, append_assoc, eqb, ltb, leb, append-nil, length-append, bytes_eq}
use Rattle.std.proofs.lemmas.Bool.Decides.{nat_tests}
use Rattle.std.specs.List.{list_all}
use Rattle.std.proofs.lemmas.Fmt.{length-decimal-le}
use Rattle.std.proofs.lemmas.Bool.{and_parts, and_left, and_right, or_from}
use Rattle.life_base.specs.declared.kind.Kind.{Kind}
use Rattle.life_base.specs.declared.kind.Kind.TheVariants.{LineTooLong, LateHeader, SecondHeader}
use Rattle.life_base.specs.declared.rule.Rule.{Rule}
use Rattle.life_base.specs.declared.rule.Rule.TheVariants.{Life, Named}
use Rattle.life_base.specs.Text.{is_whitespace, is_digit_text, is_blank, begins_with}
use Rattle.std.specs.Char.{is_ascii_digit}
use Rattle.life_rle.specs.declared.item.Item.{Item}
use Rattle.life_rle.specs.declared.item.Item.TheVariants.{Cells, RowEnds}
use Rattle.life_rle.specs.Items.{Next, End, Spelled, next_of, Spells}
use Rattle.life_rle.specs.Position.{is_position_line}
use Rattle.life_rle.specs.Pattern.{Rle, placed_after, first_fault}
use Rattle.life_rle.specs.States.{is_state_of, state_text, state_letters}
use Rattle.life_rle.specs.declared.line.Later.{Later}
use Rattle.life_rle.specs.declared.line.Later.TheVariants.{Passed, Data}
use Rattle.life_rle.specs.Grammar.{later_of, IsUnmarked, IsMarked}
use Rattle.life_rle.specs.Written.{wrapped_lines, item_text, count_text}
use Rattle.life_rle.specs.Laws.{StatesReadBack}
use Rattle.life_rle.proofs.Progress.{with_items, with_items-nil, IsUnmarked-push, IsMarked-begun}
use Rattle.life_rle.proofs.Unique.{fault-parts, with_items-twice}
use Rattle.life_rle.proofs.Texts.{IsWritten, item_text-Spelled, digit-plain, decimal-is_digit_text}
use Rattle.life_base.specs.declared.cell.TheConstants.{MAX_LEVEL}
use Rattle.life_rle.specs.Plane.{most_count}

-- the bytes spell these items, whatever follows them
abbrev pub Prefixes : List ℕ → List Item → Type 0
Prefixes bytes items = (rest : List ℕ) → Spells MAX_LEVEL (bytes ++ rest) items (next_of MAX_LEVEL rest)

Spells-more : (items : List Item) (bytes : List ℕ) (item : Item) (rest : List ℕ) (next : Next) → Spells MAX_LEVEL bytes items next → next ≡ Spelled item rest
    → Spells MAX_LEVEL bytes (items ++ item ∷ []) (next_of MAX_LEVEL rest)
Spells-more [] bytes item rest next h e = (rest, h ∙ e, refl)
Spells-more (i ∷ items) bytes item rest next h e = (h.0, h.1, Spells-more items h.0 item rest next h.2 e)

-- one more item's text
Prefixes-push : StatesReadBack → (rule : Rule) (bytes : List ℕ) (items : List Item) (item : Item) → Prefixes bytes items → IsWritten rule item
    → Prefixes (bytes ++ item_text rule item) (items ++ item ∷ [])
Prefixes-push states rule bytes items item h w rest =
    subst (λ bs. Spells MAX_LEVEL bs (items ++ item ∷ []) (next_of MAX_LEVEL rest)) (sym (append_assoc bytes (item_text rule item) rest))
    (Spells-more items (bytes ++ (item_text rule item ++ rest)) item rest (next_of MAX_LEVEL (item_text rule item ++ rest)) (h (item_text rule item ++ rest))
    (item_text-Spelled states rule item rest w))

-- a line whose prefix is no comment's and no header's
abbrev pub BeginsAsItem : List ℕ → Type 0
BeginsAsItem [] = ⊥
BeginsAsItem (b ∷ []) = (is_whitespace b ≡ false) × (eqb b 35 ≡ false) × (eqb b 120 ≡ false)
BeginsAsItem (b ∷ c ∷ rest) = (is_whitespace b ≡ false) × (eqb b 35 ≡ false) × ((eqb b 120 ≡ false) ⊎ ((eqb c 32 ≡ false) × (eqb c 61 ≡ false)))

-- more bytes after it
BeginsAsItem-append : (line more : List ℕ) → BeginsAsItem line → BeginsAsItem (line ++ more)
BeginsAsItem-append [] more h = absurd h
BeginsAsItem-append (b ∷ []) [] h = h
BeginsAsItem-append (b ∷ []) (c ∷ more) h = (h.0, h.1, inl h.2)
BeginsAsItem-append (b ∷ c ∷ rest) more h = h

-- the choice that a line after the header makes, by its tests
abbrev choice : (long blank position comment header : Bool) → Result Later Kind
choice long blank position comment header = cond long (Err LineTooLong)
    (cond blank (Ok Passed) (cond position (Err LateHeader) (cond comment (Ok Passed) (cond header (Err SecondHeader) (Ok Data)))))

choice-items : (long blank position comment header : Bool) → long ≡ false → blank ≡ false → position ≡ false → comment ≡ false → header ≡ false
    → choice long blank position comment header ≡ Ok Data
choice-items long blank position comment header a b c d e = rw (a, b, c, d, e) refl

-- another first byte, and another second byte
begins_other : (b w : ℕ) (line word : List ℕ) → eqb b w ≡ false → begins_with (b ∷ line) (w ∷ word) ≡ false
begins_other b w line word h = and_left (eqb b w) (bytes_eq (take (length word) line) word) h

begins_second : (b c v w : ℕ) (line word : List ℕ) → eqb c w ≡ false → begins_with (b ∷ c ∷ line) (v ∷ w ∷ word) ≡ false
begins_second b c v w line word h = and_right (eqb b v) (begins_with (c ∷ line) (w ∷ word)) (begins_other c w line word h)

-- no second header
no_second : (b c : ℕ) (rest : List ℕ) → ((eqb b 120 ≡ false) ⊎ ((eqb c 32 ≡ false) × (eqb c 61 ≡ false)))
    → (begins_with (b ∷ c ∷ rest) (codes "x ") || begins_with (b ∷ c ∷ rest) (codes "x=")) ≡ false
no_second b c rest (inl e) = or_from _ _ (begins_other b 120 (c ∷ rest) (32 ∷ []) e) (begins_other b 120 (c ∷ rest) (61 ∷ []) e)
no_second b c rest (inr e) = or_from _ _ (begins_second b c 120 32 rest [] e.0) (begins_second b c 120 61 rest [] e.1)

no_position : (b : ℕ) (line : List ℕ) → eqb b 35 ≡ false → is_position_line (b ∷ line) ≡ false
no_position b line h = and_left (begins_with (b ∷ line) (codes "#CXRLE")) (is_blank (take 1 (drop 6 (b ∷ line)))) (begins_other b 35 line (codes "CXRLE") h)

-- such a line of at most 70 bytes is a line of items
later_of-items : (line : List ℕ) → BeginsAsItem line → length line ≤ 70 → later_of line ≡ Ok Data
later_of-items [] h s = absurd h
later_of-items (b ∷ []) h s =
    choice-items false (is_blank (b ∷ [])) (is_position_line (b ∷ [])) (begins_with (b ∷ []) (codes "#"))
    (begins_with (b ∷ []) (codes "x ") || begins_with (b ∷ []) (codes "x="))
    refl (and_left (is_whitespace b) true h.0) (no_position b [] h.1) (begins_other b 35 [] [] h.1)
    (or_from _ _ (begins_other b 120 [] (32 ∷ []) h.2) (begins_other b 120 [] (61 ∷ []) h.2))
later_of-items (b ∷ c ∷ rest) h s =
    let line = b ∷ c ∷ rest in
    let short : ltb (2 ^ 20) (length line) ≡ false = grind (arith, nat_tests) in
    choice-items (ltb (2 ^ 20) (length line)) (is_blank line) (is_position_line line) (begins_with line (codes "#"))
    (begins_with line (codes "x ") || begins_with line (codes "x="))
    short (and_left (is_whitespace b) (is_blank (c ∷ rest)) h.0) (no_position b (c ∷ rest) h.1) (begins_other b 35 (c ∷ rest) [] h.1) (no_second b c rest h.2)

-- items that can be written
abbrev pub AreWritten : Rule → List Item → Type 0
AreWritten rule [] = Unit {0}
AreWritten rule (item ∷ items) = IsWritten rule item × AreWritten rule items

BeginsAsItem-digit : (d : ℕ) (rest : List ℕ) → is_ascii_digit d ≡ true → BeginsAsItem (d ∷ rest)
BeginsAsItem-digit d [] h = ((digit-plain d h).0, grind (arith, nat_tests), grind (arith, nat_tests))
BeginsAsItem-digit d (c ∷ rest) h = ((digit-plain d h).0, grind (arith, nat_tests), inl (grind (arith, nat_tests)))

BeginsAsItem-digits : (digits tag : List ℕ) → is_digit_text digits ≡ true → BeginsAsItem (digits ++ tag)
BeginsAsItem-digits [] tag h = cc
BeginsAsItem-digits (d ∷ digits) tag h = BeginsAsItem-digit d (digits ++ tag) (and_parts (is_ascii_digit d) (list_all is_ascii_digit digits) h).0

BeginsAsItem-count : (n : ℕ) (tag : List ℕ) → n ≤ most_count MAX_LEVEL → BeginsAsItem tag → BeginsAsItem (count_text n ++ tag)
BeginsAsItem-count n tag high h =
    elim (eqb n 1) as (λ t. BeginsAsItem (cond t [] (decimal n) ++ tag))
    [ true ↦ h | false ↦ BeginsAsItem-digits (decimal n) tag (decimal-is_digit_text n (omega arith)) ]

lettered-BeginsAsItem : (state : ℕ) → is_state_of (Named []) state ≡ true → BeginsAsItem (state_letters state)
lettered-BeginsAsItem state h =
    elim (eqb state 0) as (λ t. BeginsAsItem
    (cond t (46 ∷ []) (cond (leb state 24) ((64 + state) ∷ []) ((111 + (state - 1) / 24) ∷ (65 + (state - 1) % 24) ∷ [])))) [
      | true ↦ (refl, refl, refl)
      | false ↦ elim (leb state 24) as
          (λ t. leb state 24 ≡ t → BeginsAsItem (cond t ((64 + state) ∷ []) ((111 + (state - 1) / 24) ∷ (65 + (state - 1) % 24) ∷ []))) [
            | true ↦ λ e. (grind (arith, nat_tests), grind (arith, nat_tests), grind (arith, nat_tests))
            | false ↦ λ e. (grind (arith, nat_tests), grind (arith, nat_tests), inr (grind (arith, nat_tests), grind (arith, nat_tests)))
          ] refl
    ]

state_text-BeginsAsItem : (rule : Rule) (state : ℕ) → is_state_of rule state ≡ true → BeginsAsItem (state_text rule state)
state_text-BeginsAsItem (Life sets) state h = elim (eqb state 0) as (λ t. BeginsAsItem (cond t 98 111 ∷ []))
    [ true ↦ (refl, refl, refl) | false ↦ (refl, refl, refl) ]
state_text-BeginsAsItem (Named name) state h = lettered-BeginsAsItem state h

-- an item's text begins as an item's, and is short
item_text-BeginsAsItem : (rule : Rule) (item : Item) → IsWritten rule item → BeginsAsItem (item_text rule item)
item_text-BeginsAsItem rule (Cells n s) h = BeginsAsItem-count n (state_text rule s) h.1 (state_text-BeginsAsItem rule s h.2)
item_text-BeginsAsItem rule (RowEnds n) h = BeginsAsItem-count n (36 ∷ []) h.1 (refl, refl, refl)

count_text-short : (n : ℕ) → n ≤ most_count MAX_LEVEL → length (count_text n) ≤ 20
count_text-short n high = elim (eqb n 1) as (λ t. length (cond t [] (decimal n)) ≤ 20)
    [ true ↦ omega arith | false ↦ length-decimal-le 20 n (omega arith) (omega arith) (omega arith) ]

lettered-short : (state : ℕ) → length (state_letters state) ≤ 2
lettered-short state =
    elim (eqb state 0) as (λ t. length (cond t (46 ∷ []) (cond (leb state 24) ((64 + state) ∷ []) ((111 + (state - 1) / 24) ∷ (65 + (state - 1) % 24) ∷ [])))
    ≤ 2) [
      | true ↦ omega arith
      | false ↦ elim (leb state 24) as (λ t. length (cond t ((64 + state) ∷ []) ((111 + (state - 1) / 24) ∷ (65 + (state - 1) % 24) ∷ [])) ≤ 2)
          [ true ↦ omega arith | false ↦ omega arith ]
    ]

pub state_text-short : (rule : Rule) (state : ℕ) → length (state_text rule state) ≤ 2
state_text-short (Life sets) state = omega arith
state_text-short (Named name) state = lettered-short state

pub item_text-short : (rule : Rule) (item : Item) → IsWritten rule item → length (item_text rule item) ≤ 70
item_text-short rule (Cells n s) h =
    let a = count_text-short n h.1 in let b = state_text-short rule s in
    omega (arith, length-append (count_text n) (state_text rule s), a, b)
item_text-short rule (RowEnds n) h =
    let a = count_text-short n h.1 in omega (arith, length-append (count_text n) (36 ∷ []), a)

-- a wrapped line begins as an item, or is empty
abbrev pub Starts : List ℕ → List Item → Type 0
Starts line now = ((line ≡ []) × (now ≡ [])) ⊎ BeginsAsItem line

Starts-append : (line more : List ℕ) (now : List Item) → Starts line now → BeginsAsItem more → BeginsAsItem (line ++ more)
Starts-append line more now (inl e) h = subst (λ l. BeginsAsItem (l ++ more)) (sym e.0) h
Starts-append line more now (inr s) h = BeginsAsItem-append line more s

-- a line that is full isn't empty
Starts-full : (line : List ℕ) (now : List Item) (n : ℕ) → Starts line now → n ≤ 70 → leb (length line + n) 70 ≡ false → BeginsAsItem line
Starts-full line now n (inr s) h e = s
Starts-full line now n (inl z) h e = let none : length line ≡ 0 = ap length z.0 in absurd (grind (arith, nat_tests))

-- a full line is read
full-IsUnmarked : (prefix : List (List ℕ)) (file : Rle) (line : List ℕ) (now : List Item) → IsUnmarked MAX_LEVEL prefix file → Prefixes line now
    → BeginsAsItem line
    → length line ≤ 70 → first_fault MAX_LEVEL file.rule (placed_after file.position file.items now) ≡ None
    → IsUnmarked MAX_LEVEL (prefix ++ line ∷ []) (with_items file now)
full-IsUnmarked prefix file line now begun h start short sound =
    IsUnmarked-push MAX_LEVEL prefix file line now begun
    (inr (later_of-items line start short, subst (λ bs. Spells MAX_LEVEL bs now End) (append-nil line) (h []))) sound

last-IsMarked : (prefix : List (List ℕ)) (file : Rle) (line : List ℕ) (now : List Item) → IsUnmarked MAX_LEVEL prefix file → Prefixes line now → Starts line now
    → length line + 1 ≤ 70 → first_fault MAX_LEVEL file.rule (placed_after file.position file.items now) ≡ None
    → IsMarked MAX_LEVEL (prefix ++ (line ++ 33 ∷ []) ∷ []) (with_items file now)
last-IsMarked prefix file line now begun h start short sound =
    let size = length-append line (33 ∷ []) in
    IsMarked-begun MAX_LEVEL prefix file (line ++ 33 ∷ []) now begun
    (inr (later_of-items (line ++ 33 ∷ []) (Starts-append line (33 ∷ []) now start (refl, refl, refl)) (omega (arith, size)), h (33 ∷ []))) sound

-- each wrapped line is read, and the mark ends the last
pub wrapped-IsMarked : StatesReadBack → (prefix : List (List ℕ)) (file : Rle) (line : List ℕ) (now items : List Item) → IsUnmarked MAX_LEVEL prefix file
    → Prefixes line now → Starts line now → length line ≤ 70 → AreWritten file.rule items
    → first_fault MAX_LEVEL file.rule (placed_after file.position file.items (now ++ items)) ≡ None
    → IsMarked MAX_LEVEL (prefix ++ wrapped_lines line (map (item_text file.rule) items ++ (33 ∷ []) ∷ [])) (with_items file (now ++ items))
wrapped-IsMarked states prefix file line now [] begun h start short w sound =
    let only : now ++ [] ≡ now = append-nil now in
    let sound' : first_fault MAX_LEVEL file.rule (placed_after file.position file.items now)
    ≡ None = subst (λ xs. first_fault MAX_LEVEL file.rule (placed_after file.position file.items xs) ≡ None) only sound in
    subst (λ xs. IsMarked MAX_LEVEL (prefix ++ wrapped_lines line ((33 ∷ []) ∷ [])) (with_items file xs)) (sym only)
    (elim (leb (length line + 1) 70)
    as (λ t. leb (length line + 1) 70 ≡ t → IsMarked MAX_LEVEL (prefix ++ cond t ((line ++ 33 ∷ []) ∷ []) (line ∷ (33 ∷ []) ∷ [])) (with_items file now)) [
      | true ↦ λ e. last-IsMarked prefix file line now begun h start (grind (arith, nat_tests)) sound'
      | false ↦ λ e.
          let full = full-IsUnmarked prefix file line now begun h (Starts-full line now 1 start (omega arith) e) short sound' in
          let end = last-IsMarked (prefix ++ line ∷ []) (with_items file now) [] [] full (λ rest. refl) (inl (refl, refl)) (omega arith) refl in
          subst (λ ls. IsMarked MAX_LEVEL ls (with_items file now)) (append_assoc prefix (line ∷ []) ((33 ∷ []) ∷ []))
          (subst (λ f. IsMarked MAX_LEVEL ((prefix ++ line ∷ []) ++ (33 ∷ []) ∷ []) f) (with_items-nil (with_items file now)) end)
    ] refl)
wrapped-IsMarked states prefix file line now (item ∷ items) begun h start short w sound =
    let rule = file.rule in
    let text = item_text rule item in
    let texts = map (item_text rule) items ++ (33 ∷ []) ∷ [] in
    let size = length-append line text in
    let group : (now ++ item ∷ []) ++ items ≡ now ++ item ∷ items = append_assoc now (item ∷ []) items in
    let parts = fault-parts MAX_LEVEL file now (item ∷ items) sound in
    elim (leb (length line + length text) 70)
    as (λ t. leb (length line + length text) 70 ≡ t
    → IsMarked MAX_LEVEL (prefix ++ cond t (wrapped_lines (line ++ text) texts) (line ∷ wrapped_lines text texts))
    (with_items file (now ++ item ∷ items))) [
      | true ↦ λ e.
          subst (λ xs. IsMarked MAX_LEVEL (prefix ++ wrapped_lines (line ++ text) texts) (with_items file xs)) group
          (wrapped-IsMarked states prefix file (line ++ text) (now ++ item ∷ []) items begun (Prefixes-push states rule line now item h w.0)
          (inr (Starts-append line text now start (item_text-BeginsAsItem rule item w.0))) (grind (arith, nat_tests)) w.1
          (subst (λ xs. first_fault MAX_LEVEL rule (placed_after file.position file.items xs) ≡ None) (sym group) sound))
      | false ↦ λ e.
          let full = full-IsUnmarked prefix file line now begun h (Starts-full line now (length text) start (item_text-short rule item w.0) e) short parts.0 in
          subst (λ ls. IsMarked MAX_LEVEL ls (with_items file (now ++ item ∷ items))) (append_assoc prefix (line ∷ []) (wrapped_lines text texts))
          (subst (IsMarked MAX_LEVEL ((prefix ++ line ∷ []) ++ wrapped_lines text texts)) (with_items-twice file now (item ∷ items))
          (wrapped-IsMarked states (prefix ++ line ∷ []) (with_items file now) text (item ∷ []) items full
          (Prefixes-push states rule [] [] item (λ rest. refl) w.0)
          (inr (item_text-BeginsAsItem rule item w.0)) (item_text-short rule item w.0) w.1 parts.1))
    ] refl
