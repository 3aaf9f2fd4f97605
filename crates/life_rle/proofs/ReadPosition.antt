-- The written position line is read.
use Rattle.std.proofs.Common.{◌≡◌, ℕ, zero, suc, ◌+◌, ◌^◌, ◌<◌, Bool, true, false, not, cond, ◌&&◌, List, [], ◌∷◌, ◌++◌, length, take, drop, refl, sym, ap, ◌∙◌, Some, None, Ok, Err, arith, eqb, leb, ◌-◌, decimal, codes, ℤ, pos, negsuc, neg_ℤ, append-nil}
use Rattle.std.specs.List.{list_all, before_first, after_first, position_or_len}
use Rattle.std.specs.Fmt.{signed_decimal}
use Rattle.std.proofs.lemmas.Bool.Decides.{nat_tests}
use Rattle.std.proofs.lemmas.List.Folds.{list_all-append}
use Rattle.std.proofs.lemmas.Bool.{and_parts, not-true}
use Rattle.std.proofs.Math.Seq.{take-append_seam, drop-append-add}
use Rattle.life_base.specs.declared.kind.Kind.TheVariants.{TooLarge, OutOfPlane, BadNumber}
use Rattle.life_base.specs.Text.{is_whitespace, is_digit_text, value_of, words_of, is_blank, onto_first}
use Rattle.std.specs.Char.{is_ascii_digit}
use Rattle.life_base.specs.Numbers.{u64_of}
use Rattle.life_rle.specs.Position.{signed_number, Corner, Generation, default_position, corner_of, field_of, position_with_field, and_then, position_with, position_of}
use Rattle.life_rle.specs.Plane.{is_coordinate}
use Rattle.life_rle.specs.Written.{position_text, generation_text}
use Rattle.life_rle.proofs.Texts.{decimal-is_digit_text, value_of-decimal}
use Rattle.life_rle.proofs.ReadBack.{digits-all}
use Rattle.life_base.specs.declared.cell.TheConstants.{MAX_LEVEL}
use Rattle.life_base.proofs.Texts.{step_to}

-- the size of a number
abbrev pub IsShort : ℤ → Type 0
IsShort (pos n) = n < 2 ^ 64
IsShort (negsuc n) = suc n < 2 ^ 64

not_minus : (d : ℕ) → is_ascii_digit d ≡ true → eqb d 45 ≡ false
not_minus d h = grind (arith, nat_tests)

pub signed_number-digits : (digits : List ℕ) → is_digit_text digits ≡ true → signed_number digits ≡ Some (pos (value_of digits))
signed_number-digits [] h = cc
signed_number-digits (d ∷ digits) h =
    ap (λ t. cond (t && true) (cond (is_digit_text digits) (Some (neg_ℤ (pos (value_of digits)))) None)
    (cond (is_digit_text (d ∷ digits)) (Some (pos (value_of (d ∷ digits)))) None))
    (not_minus d (and_parts (is_ascii_digit d) (list_all is_ascii_digit digits) h).0)
    ∙ ap (λ t. cond t (Some (pos (value_of (d ∷ digits)))) None) h

-- a written number is read
pub signed_number-decimal : (z : ℤ) → IsShort z → signed_number (signed_decimal z) ≡ Some z
signed_number-decimal (pos n) h = signed_number-digits (decimal n) (decimal-is_digit_text n h) ∙ ap (λ m. Some (pos m)) (value_of-decimal n h)
signed_number-decimal (negsuc n) h =
    ap (λ t. cond t (Some (neg_ℤ (pos (value_of (decimal (suc n)))))) None) (decimal-is_digit_text (suc n) h)
    ∙ ap (λ m. Some (neg_ℤ (pos m))) (value_of-decimal (suc n) h)

u64_of-decimal : (n : ℕ) → n < 2 ^ 64 → u64_of (decimal n) ≡ Ok n
u64_of-decimal n h =
    let fits : leb n (2 ^ 64 - 1) ≡ true = grind (arith, nat_tests) in
    ap (λ t. cond (not t) (Err BadNumber) (cond (leb (value_of (decimal n)) (2 ^ 64 - 1)) (Ok (value_of (decimal n))) (Err TooLarge)))
    (decimal-is_digit_text n h)
    ∙ ap (λ v. cond (leb v (2 ^ 64 - 1)) (Ok v) (Err TooLarge)) (value_of-decimal n h) ∙ ap (λ t. cond t (Ok n) (Err TooLarge)) fits

-- bytes of numbers: digits and minus
abbrev pub is_plain : ℕ → Bool
is_plain b = not (is_whitespace b) && not (eqb b 44)

digit-is_plain : (b : ℕ) → is_ascii_digit b ≡ true → is_plain b ≡ true
digit-is_plain b h = grind (arith, nat_tests)

pub digits-plain : (digits : List ℕ) → list_all is_ascii_digit digits ≡ true → list_all is_plain digits ≡ true
digits-plain [] h = refl
digits-plain (d ∷ digits) h =
    let parts = and_parts (is_ascii_digit d) (list_all is_ascii_digit digits) h in
    ap (λ t. t && list_all is_plain digits) (digit-is_plain d parts.0) ∙ digits-plain digits parts.1

signed-plain : (z : ℤ) → IsShort z → list_all is_plain (signed_decimal z) ≡ true
signed-plain (pos n) h = digits-plain (decimal n) (digits-all (decimal n) (decimal-is_digit_text n h))
signed-plain (negsuc n) h = digits-plain (decimal (suc n)) (digits-all (decimal (suc n)) (decimal-is_digit_text (suc n) h))

-- nothing, or whitespace
abbrev pub EndsWord : List ℕ → Type 0
EndsWord [] = Unit {0}
EndsWord (b ∷ bytes) = is_whitespace b ≡ true

ends_blank : (ys : List ℕ) → EndsWord ys → is_blank (take 1 ys) ≡ true
ends_blank [] h = refl
ends_blank (y ∷ ys) h = ap (λ t. t && true) h

pub words_of-plain : (b : ℕ) (xs ys : List ℕ) → is_whitespace b ≡ false → list_all (λ b. not (is_whitespace b)) xs ≡ true → EndsWord ys
    → words_of (b ∷ (xs ++ ys)) ≡ (b ∷ xs) ∷ words_of ys
words_of-plain b [] ys e h s = ap (λ t. step_to b ys t (is_blank (take 1 ys))) e ∙ ap (step_to b ys false) (ends_blank ys s)
words_of-plain b (x ∷ xs) ys e h s =
    let parts = and_parts (not (is_whitespace x)) (list_all (λ b. not (is_whitespace b)) xs) h in
    let inside : is_whitespace x ≡ false = not-true (is_whitespace x) parts.0 in
    ap (λ t. step_to b (x ∷ (xs ++ ys)) t (is_whitespace x && true)) e ∙ ap (λ t. step_to b (x ∷ (xs ++ ys)) false (t && true)) inside
    ∙ ap (onto_first b) (words_of-plain x xs ys inside parts.1 s)

position-seam : (xs ys : List ℕ) → list_all is_plain xs ≡ true → position_or_len (λ b. eqb b 44) (xs ++ 44 ∷ ys) ≡ length xs
position-seam [] ys h = refl
position-seam (x ∷ xs) ys h =
    let parts = and_parts (is_plain x) (list_all is_plain xs) h in
    let more = position-seam xs ys parts.1 in
    let other : eqb x 44 ≡ false = grind (arith, nat_tests) in
    ap (λ t. cond (not t) (1 + position_or_len (λ b. eqb b 44) (xs ++ 44 ∷ ys)) 0) other ∙ one_more (position_or_len (λ b. eqb b 44) (xs ++ 44 ∷ ys))
    (length xs) more
  where
    one_more : (m n : ℕ) → m ≡ n → 1 + m ≡ suc n
    one_more m n e = omega arith

pub before-comma : (xs ys : List ℕ) → list_all is_plain xs ≡ true → before_first (λ b. eqb b 44) (xs ++ 44 ∷ ys) ≡ xs
before-comma xs ys h = ap (λ n. take n (xs ++ 44 ∷ ys)) (position-seam xs ys h) ∙ take-append_seam xs (44 ∷ ys)

pub after-comma : (xs ys : List ℕ) → list_all is_plain xs ≡ true → after_first (λ b. eqb b 44) (xs ++ 44 ∷ ys) ≡ ys
after-comma xs ys h = ap (λ n. drop (n + 1) (xs ++ 44 ∷ ys)) (position-seam xs ys h) ∙ drop-append-add xs (44 ∷ ys) 1

-- the field of the corner
abbrev corner_text : ℤ → ℤ → List ℕ
corner_text x y = codes "Pos=" ++ (signed_decimal x ++ 44 ∷ signed_decimal y)

corner_text-field : (x y : ℤ) → IsShort x → IsShort y → is_coordinate MAX_LEVEL x ≡ true → is_coordinate MAX_LEVEL y ≡ true
    → field_of MAX_LEVEL (corner_text x y) ≡ Ok (Corner x y)
corner_text-field x y sx sy cx cy =
    ap (λ t. corner_of MAX_LEVEL (signed_number t) (signed_number (after_first (λ b. eqb b 44) (signed_decimal x ++ 44 ∷ signed_decimal y))))
    (before-comma (signed_decimal x) (signed_decimal y) (signed-plain x sx))
    ∙ ap (λ t. corner_of MAX_LEVEL (signed_number (signed_decimal x)) (signed_number t)) (after-comma (signed_decimal x) (signed_decimal y) (signed-plain x sx))
    ∙ ap (λ a. corner_of MAX_LEVEL a (signed_number (signed_decimal y))) (signed_number-decimal x sx)
    ∙ ap (corner_of MAX_LEVEL (Some x)) (signed_number-decimal y sy)
    ∙ ap (λ t. cond (t && is_coordinate MAX_LEVEL y) (Ok (Corner x y)) (Err OutOfPlane)) cx
    ∙ ap (λ t. cond t (Ok (Corner x y)) (Err OutOfPlane)) cy

-- the field of the generation
generation-field : (g : ℕ) → g < 2 ^ 64 → field_of MAX_LEVEL (codes "Gen=" ++ decimal g) ≡ Ok (Generation g)
generation-field g h = ap (λ r. and_then r (λ n. Ok (Generation n))) (u64_of-decimal g h)

no_space : (xs : List ℕ) → list_all is_plain xs ≡ true → list_all (λ b. not (is_whitespace b)) xs ≡ true
no_space [] h = refl
no_space (b ∷ xs) h =
    let parts = and_parts (is_plain b) (list_all is_plain xs) h in
    ap (λ t. t && list_all (λ b. not (is_whitespace b)) xs) (and_parts (not (is_whitespace b)) (not (eqb b 44)) parts.0).0 ∙ no_space xs parts.1

Pos-plain : (x y : ℤ) → IsShort x → IsShort y → list_all (λ b. not (is_whitespace b)) (corner_text x y) ≡ true
Pos-plain x y sx sy =
    list_all-append (λ b. not (is_whitespace b)) (signed_decimal x) (44 ∷ signed_decimal y)
    ∙ ap (λ t. t && list_all (λ b. not (is_whitespace b)) (signed_decimal y)) (no_space (signed_decimal x) (signed-plain x sx))
    ∙ no_space (signed_decimal y) (signed-plain y sy)

position-regrouped : (x y : ℤ) (g : ℕ) → position_text x y g ≡ codes "#CXRLE " ++ (corner_text x y ++ generation_text g)
position-regrouped x y g = ap (λ t. codes "#CXRLE Pos=" ++ (t ++ generation_text g)) refl

-- the position of a written position line
pub position_of-written : (x y : ℤ) (g : ℕ) → IsShort x → IsShort y → is_coordinate MAX_LEVEL x ≡ true → is_coordinate MAX_LEVEL y ≡ true → g < 2 ^ 64
    → position_of MAX_LEVEL (position_text x y g) ≡ Ok (record { x = x; y = y; generation = g })
position_of-written x y zero sx sy cx cy h =
    let word : words_of (corner_text x y ++ []) ≡ corner_text x y ∷ [] = words_of-plain 80 (drop 1 (corner_text x y)) [] refl (Pos-plain x y sx sy) tt in
    ap (position_of MAX_LEVEL) (position-regrouped x y zero)
    ∙ ap (position_with MAX_LEVEL default_position) word
    ∙ ap (λ f. and_then f (λ found. Ok (position_with_field default_position found))) (corner_text-field x y sx sy cx cy)
position_of-written x y (suc n) sx sy cx cy h =
    let gen = codes "Gen=" ++ decimal (suc n) in
    let plain : list_all (λ b. not (is_whitespace b)) (drop 1 gen) ≡ true = no_space (decimal (suc n))
    (digits-plain (decimal (suc n)) (digits-all (decimal (suc n)) (decimal-is_digit_text (suc n) h))) in
    let last : words_of gen ≡ gen ∷ [] = ap words_of (sym (append-nil gen)) ∙ words_of-plain 71 (drop 1 gen) [] refl plain tt in
    let word : words_of (corner_text x y ++ 32 ∷ gen) ≡ corner_text x y ∷ words_of gen = words_of-plain 80 (drop 1 (corner_text x y)) (32 ∷ gen) refl
    (Pos-plain x y sx sy) refl in
    ap (position_of MAX_LEVEL) (position-regrouped x y (suc n))
    ∙ ap (position_with MAX_LEVEL default_position) (word ∙ ap (λ ws. corner_text x y ∷ ws) last)
    ∙ ap (λ f. and_then f (λ found. position_with MAX_LEVEL (position_with_field default_position found) (gen ∷ []))) (corner_text-field x y sx sy cx cy)
    ∙ ap (λ f. and_then f (λ found. Ok (position_with_field (record { x = x; y = y; generation = 0 }) found))) (generation-field (suc n) h)
