-- What is written of an item is read as that item, whatever follows.
use Rattle.std.proofs.Common.{◌≡◌, ℕ, suc, ◌+◌, ◌-◌, ◌/◌, ◌%◌, ◌^◌, ◌<◌, ◌≤◌, Bool, true, false, cond, ◌&&◌, List, [], ◌∷◌, ◌++◌, length, take, drop, refl, sym, ap, ◌∙◌, arith, append_assoc, eqb, ltb, leb, decimal}
use Rattle.std.proofs.lemmas.Bool.Decides.{nat_tests}
use Rattle.std.proofs.lemmas.Fmt.{decimal_by_steps, decimal_is_IsNumeral}
use Rattle.std.specs.List.{list_all, prefix_len}
use Rattle.std.proofs.lemmas.List.Folds.{list_all-append}
use Rattle.std.proofs.lemmas.Bool.{and_parts}
use Rattle.life_base.specs.declared.kind.Kind.TheVariants.{ZeroCount, TooLarge}
use Rattle.life_base.specs.declared.rule.Rule.{Rule}
use Rattle.life_base.specs.declared.rule.Rule.TheVariants.{Life, Named}
use Rattle.life_base.specs.Text.{is_whitespace, is_digit_text, trim_start, value_of}
use Rattle.std.specs.Char.{is_ascii_digit}
use Rattle.std.proofs.Math.Seq.{take-append_seam, drop-append_seam}
use Rattle.life_rle.specs.States.{leading_state, state_text, state_letters, is_state_of}
use Rattle.life_rle.specs.declared.item.Item.{Item}
use Rattle.life_rle.specs.declared.item.Item.TheVariants.{Cells, RowEnds}
use Rattle.life_rle.specs.Items.{leading_digits, after_digits_of, Mark, Spelled, Broken, next_of_cells, item_after, item_with_digits, item_in, next_of}
use Rattle.life_rle.specs.Written.{count_text, item_text}
use Rattle.life_rle.specs.Laws.{StatesReadBack}
use Rattle.life_base.specs.declared.cell.TheConstants.{MAX_LEVEL}
use Rattle.life_rle.specs.Plane.{most_count}

digit-is_ascii_digit : (d : ℕ) → d < 10 → is_ascii_digit (48 + d) ≡ true
digit-is_ascii_digit d h = grind (arith, nat_tests)

is_digit_text-push : (ds : List ℕ) (d : ℕ) → d < 10 → is_digit_text ds ≡ true → is_digit_text (ds ++ (48 + d) ∷ []) ≡ true
is_digit_text-push [] d h e = cc
is_digit_text-push (x ∷ ds) d h e =
    let one = digit-is_ascii_digit d h in
    let all = list_all-append is_ascii_digit ds ((48 + d) ∷ []) in
    grind (arith, nat_tests)

-- a number's text is a digit text of its value
pub decimal-is_digit_text : (n : ℕ) → n < 2 ^ 64 → is_digit_text (decimal n) ≡ true
decimal-is_digit_text n h =
    decimal_by_steps (λ n ds. is_digit_text ds ≡ true) (λ n h. ap (λ t. t && true) (digit-is_ascii_digit n h))
    (λ n ds h e. is_digit_text-push ds (n % 10) (omega arith) e) n h

pub value_of-decimal : (n : ℕ) → n < 2 ^ 64 → value_of (decimal n) ≡ n
value_of-decimal n h = (decimal_is_IsNumeral n h).1

-- what no digit text continues
abbrev pub Stops : (ℕ → Bool) → List ℕ → Type 0
Stops test [] = Unit {0}
Stops test (b ∷ bytes) = test b ≡ false

pub prefix_len-stop : (test : ℕ → Bool) (xs ys : List ℕ) → list_all test xs ≡ true → Stops test ys → prefix_len test (xs ++ ys) ≡ length xs
prefix_len-stop test [] [] h s = refl
prefix_len-stop test [] (y ∷ ys) h s = ap (λ t. cond t (1 + prefix_len test ys) 0) s
prefix_len-stop test (x ∷ xs) ys h s =
    let parts = and_parts (test x) (list_all test xs) h in
    let one : 1 + length xs ≡ suc (length xs) = omega arith in
    ap (λ t. cond t (1 + prefix_len test (xs ++ ys)) 0) parts.0 ∙ ap (λ n. 1 + n) (prefix_len-stop test xs ys parts.1 s) ∙ one

pub prefix-stop : (test : ℕ → Bool) (xs ys : List ℕ) → list_all test xs ≡ true → Stops test ys → take (prefix_len test (xs ++ ys)) (xs ++ ys) ≡ xs
prefix-stop test xs ys h s = ap (λ n. take n (xs ++ ys)) (prefix_len-stop test xs ys h s) ∙ take-append_seam xs ys

pub behind-stop : (test : ℕ → Bool) (xs ys : List ℕ) → list_all test xs ≡ true → Stops test ys → drop (prefix_len test (xs ++ ys)) (xs ++ ys) ≡ ys
behind-stop test xs ys h s = ap (λ n. drop n (xs ++ ys)) (prefix_len-stop test xs ys h s) ∙ drop-append_seam xs ys

-- a state or `$`: no whitespace, no digit and no `!` at the beginning
abbrev pub IsTag : List ℕ → Type 0
IsTag [] = ⊥
IsTag (b ∷ bytes) = (is_whitespace b ≡ false) × (is_ascii_digit b ≡ false) × (eqb b 33 ≡ false)

IsTag-Stops : (tag : List ℕ) → IsTag tag → Stops is_ascii_digit tag
IsTag-Stops [] h = absurd h
IsTag-Stops (b ∷ bytes) h = h.1

-- a state or `$` without a count
pub next_of-tag : (level : ℕ) (tag : List ℕ) → IsTag tag → next_of level tag ≡ item_after 1 tag
next_of-tag level [] h = absurd h
next_of-tag level (b ∷ bytes) h =
    let trimmed : trim_start (b ∷ bytes) ≡ b ∷ bytes = ap (λ t. cond t (trim_start bytes) (b ∷ bytes)) h.0 in
    ap (item_in level) trimmed
    ∙ ap (λ t. cond t Mark (item_with_digits level (leading_digits (b ∷ bytes)) (after_digits_of (b ∷ bytes)))) h.2
    ∙ ap (λ n. item_with_digits level (take n (b ∷ bytes)) (drop n (b ∷ bytes))) (ap (λ t. cond t (1 + prefix_len is_ascii_digit bytes) 0) h.1)

pub digit-plain : (b : ℕ) → is_ascii_digit b ≡ true → (is_whitespace b ≡ false) × (eqb b 33 ≡ false)
digit-plain b h = (grind (arith, nat_tests), grind (arith, nat_tests))

-- a state or `$` after digits
pub next_of-digits : (level n : ℕ) (digits tag : List ℕ) → is_digit_text digits ≡ true → n ≡ value_of digits → 0 < n → n ≤ most_count level → IsTag tag
    → next_of level (digits ++ tag) ≡ item_after n tag
next_of-digits level n [] tag h v low high t = cc
next_of-digits level n (d ∷ digits) tag h v low high t =
    let parts = and_parts (is_ascii_digit d) (list_all is_ascii_digit digits) h in
    let plain = digit-plain d parts.0 in
    let trimmed : trim_start ((d ∷ digits) ++ tag) ≡ (d ∷ digits) ++ tag = ap (λ t. cond t (trim_start (digits ++ tag)) (d ∷ (digits ++ tag))) plain.0 in
    let some : eqb n 0 ≡ false = grind (arith, nat_tests) in
    let few : ltb (most_count level) n ≡ false = grind (arith, nat_tests) in
    ap (item_in level) trimmed
    ∙ ap (λ t. cond t Mark (item_with_digits level (leading_digits ((d ∷ digits) ++ tag)) (after_digits_of ((d ∷ digits) ++ tag)))) plain.1
    ∙ ap (λ prefix. item_with_digits level prefix (after_digits_of ((d ∷ digits) ++ tag))) (prefix-stop is_ascii_digit (d ∷ digits) tag h (IsTag-Stops tag t))
    ∙ ap (item_with_digits level (d ∷ digits)) (behind-stop is_ascii_digit (d ∷ digits) tag h (IsTag-Stops tag t))
    ∙ ap (λ m. cond (eqb m 0) (Broken ZeroCount) (cond (ltb (most_count level) m) (Broken TooLarge) (item_after m tag))) (sym v)
    ∙ ap (λ t. cond t (Broken ZeroCount) (cond (ltb (most_count level) n) (Broken TooLarge) (item_after n tag))) some
    ∙ ap (λ t. cond t (Broken TooLarge) (item_after n tag)) few

next_of-count : (n : ℕ) (tag : List ℕ) → 0 < n → n ≤ most_count MAX_LEVEL → IsTag tag → next_of MAX_LEVEL (count_text n ++ tag) ≡ item_after n tag
next_of-count n tag low high t =
    let small : n < 2 ^ 64 = omega arith in
    elim (eqb n 1) as (λ b. eqb n 1 ≡ b → next_of MAX_LEVEL (cond b [] (decimal n) ++ tag) ≡ item_after n tag) [
      | true ↦ λ e. let one : 1 ≡ n = grind (arith, nat_tests) in next_of-tag MAX_LEVEL tag t ∙ ap (λ m. item_after m tag) one
      | false ↦ λ e. next_of-digits MAX_LEVEL n (decimal n) tag (decimal-is_digit_text n small) (sym (value_of-decimal n small)) low high t
    ] refl

pub IsTag-letter : (b : ℕ) (rest : List ℕ) → 57 < b → IsTag (b ∷ rest)
IsTag-letter b rest h = (grind (arith, nat_tests), grind (arith, nat_tests), grind (arith, nat_tests))

pub lettered-IsTag : (state : ℕ) (rest : List ℕ) → IsTag (state_letters state ++ rest)
lettered-IsTag state rest =
    elim (eqb state 0) as (λ t. IsTag
    (cond t (46 ∷ []) (cond (leb state 24) ((64 + state) ∷ []) ((111 + (state - 1) / 24) ∷ (65 + (state - 1) % 24) ∷ [])) ++ rest)) [
      | true ↦ (refl, refl, refl)
      | false ↦ elim (leb state 24) as (λ t. IsTag (cond t ((64 + state) ∷ []) ((111 + (state - 1) / 24) ∷ (65 + (state - 1) % 24) ∷ []) ++ rest))
          [ true ↦ IsTag-letter (64 + state) rest (omega arith) | false ↦ IsTag-letter (111 + (state - 1) / 24) ((65 + (state - 1) % 24) ∷ rest) (omega arith) ]
    ]

state_text-IsTag : (rule : Rule) (state : ℕ) (rest : List ℕ) → is_state_of rule state ≡ true → IsTag (state_text rule state ++ rest)
state_text-IsTag (Life sets) state rest h = elim (eqb state 0) as (λ t. IsTag (cond t 98 111 ∷ rest)) [ true ↦ (refl, refl, refl) | false ↦ (refl, refl, refl) ]
state_text-IsTag (Named name) state rest h = lettered-IsTag state rest

-- an item that can be written
abbrev pub IsWritten : Rule → Item → Type 0
IsWritten rule (Cells count state) = (0 < count) × (count ≤ most_count MAX_LEVEL) × (is_state_of rule state ≡ true)
IsWritten rule (RowEnds count) = (0 < count) × (count ≤ most_count MAX_LEVEL)

-- a tag that is no `$` is read as a state
abbrev pub IsNoRowEnd : List ℕ → Type 0
IsNoRowEnd [] = Unit {0}
IsNoRowEnd (b ∷ bytes) = eqb b 36 ≡ false

lettered-IsNoRowEnd : (state : ℕ) (rest : List ℕ) → IsNoRowEnd (state_letters state ++ rest)
lettered-IsNoRowEnd state rest =
    elim (eqb state 0) as (λ t. IsNoRowEnd
    (cond t (46 ∷ []) (cond (leb state 24) ((64 + state) ∷ []) ((111 + (state - 1) / 24) ∷ (65 + (state - 1) % 24) ∷ [])) ++ rest)) [
      | true ↦ refl
      | false ↦ elim (leb state 24) as (λ t. IsNoRowEnd (cond t ((64 + state) ∷ []) ((111 + (state - 1) / 24) ∷ (65 + (state - 1) % 24) ∷ []) ++ rest))
          [ true ↦ grind (arith, nat_tests) | false ↦ grind (arith, nat_tests) ]
    ]

state_text-IsNoRowEnd : (rule : Rule) (state : ℕ) (rest : List ℕ) → IsNoRowEnd (state_text rule state ++ rest)
state_text-IsNoRowEnd (Life sets) state rest = elim (eqb state 0) as (λ t. IsNoRowEnd (cond t 98 111 ∷ rest)) [ true ↦ refl | false ↦ refl ]
state_text-IsNoRowEnd (Named name) state rest = lettered-IsNoRowEnd state rest

not_row_end : (n : ℕ) (tag : List ℕ) → IsTag tag → IsNoRowEnd tag → item_after n tag ≡ next_of_cells n (leading_state tag)
not_row_end n [] t h = absurd t
not_row_end n (b ∷ tag) t h = ap (λ c. cond c (Spelled (RowEnds n) tag) (next_of_cells n (leading_state (b ∷ tag)))) h

-- the item's text is read as the item, whatever follows
pub item_text-Spelled : StatesReadBack → (rule : Rule) (item : Item) (rest : List ℕ) → IsWritten rule item → next_of MAX_LEVEL (item_text rule item ++ rest)
    ≡ Spelled item rest
item_text-Spelled states rule (Cells count state) rest h =
    ap (next_of MAX_LEVEL) (append_assoc (count_text count) (state_text rule state) rest)
    ∙ next_of-count count (state_text rule state ++ rest) h.0 h.1 (state_text-IsTag rule state rest h.2)
    ∙ not_row_end count (state_text rule state ++ rest) (state_text-IsTag rule state rest h.2) (state_text-IsNoRowEnd rule state rest)
    ∙ ap (next_of_cells count) (states rule state rest h.2)
item_text-Spelled states rule (RowEnds count) rest h =
    ap (next_of MAX_LEVEL) (append_assoc (count_text count) (36 ∷ []) rest)
    ∙ next_of-count count (36 ∷ rest) h.0 h.1 (refl, refl, refl)
