-- A position line gives what it gives in the layer below.
use Rattle.std.proofs.Common.{◌≡◌, ℕ, zero, suc, ◌+◌, ◌<◌, ◌≤◌, List, [], ◌∷◌, length, drop, Bool, true, false, cond, not, ◌&&◌, refl, ap, ◌∙◌, sym, arith, ◌⊎◌, inl, inr, true≢false, ◌==◌, codes, Option, Some, None, Result, Ok, Err, ℤ, pos, neg_ℤ, slice_index}
use Rattle.std.specs.Char.{is_ascii_digit}
use Rattle.std.specs.List.{slice_split, before_first, after_first, position_or_len}
use Rattle.std.proofs.lemmas.Bool.Decides.{nat_tests}
use Rattle.std.proofs.lemmas.List.Splits.{slice_split_first, length-slice_split}
use Rattle.std.proofs.lemmas.List.Sums.{passes_at_first}
use Rattle.std.proofs.lemmas.Bool.{cases_Bool, false_from_ne_true}
use Rattle.std.proofs.Math.ListN.{drop_of_length-le}
use Rattle.life_base.proofs.Basics.{right_of_and, left_of_and}
use Rattle.life_base.specs.Numbers.{u64_of, result_map}
use Rattle.life_base.specs.Text.{begins_with, is_digit_text, is_empty, value_of, words_of}
use Rattle.life_base.specs.declared.kind.Kind.{Kind}
use Rattle.life_base.specs.declared.kind.Kind.TheVariants as kinds
use Rattle.life_rle.specs.declared.position.Position.{Position as LayerPosition}
use Rattle.life_rle.specs.Position.{Field, Corner, Generation, Other, signed_number, corner_of, corner_in, field_of, and_then, position_with, position_of, default_position, position_with_field as layer_with_field}
use Rattle.claims.specs.Outcomes.{◌>>=◌}
use Rattle.claims.specs.Pattern.{is_claimed_coordinate}
use Rattle.claims.specs.Rle.{PositionFields, claimed_number_of, with_corner, claimed_with_field, with_fields, no_position_fields}
use Rattle.claims.proofs.McLaw.{generation_is}
use Rattle.claims.proofs.McPlane.{all_at}
use Rattle.claims.proofs.RlePlane.{position_in}

abbrev is_comma : ℕ → Bool
is_comma b = b == 44

-- ---- a number

abbrev number_found : Option ℤ → Result ℤ Kind
number_found (Some z) = Ok z
number_found None = Err kinds.BadNumber

digits_step : (w : Bool) (z : ℤ) → cond (not w) (Err kinds.BadNumber) (Ok z) ≡ number_found (cond w (Some z) None)
digits_step true z = refl
digits_step false z = refl

sign_step : (v : Bool) (a b : List ℕ)
    → cond (not (is_digit_text (cond v a b))) (Err kinds.BadNumber) (Ok (cond v (neg_ℤ (pos (value_of (cond v a b)))) (pos (value_of (cond v a b)))))
    ≡ number_found (cond v (cond (is_digit_text a) (Some (neg_ℤ (pos (value_of a)))) None) (cond (is_digit_text b) (Some (pos (value_of b))) None))
sign_step true a b = digits_step (is_digit_text a) _
sign_step false a b = digits_step (is_digit_text b) _

number_is : (text : List ℕ) → claimed_number_of text ≡ number_found (signed_number text)
number_is text = sign_step (begins_with text (codes "-")) (drop 1 text) text

-- ---- a text with a comma is no number

comma_no_digit : (b : ℕ) → is_comma b ≡ true → is_ascii_digit b ≡ false
comma_no_digit b h = let e : b ≡ 44 = grind (arith, nat_tests) in ap is_ascii_digit e

not_digits : (text : List ℕ) (i : ℕ) → i < length text → is_comma (slice_index text i) ≡ true → is_digit_text text ≡ false
not_digits text i l h = false_from_ne_true (is_digit_text text) (λ e.
    true≢false (sym (all_at is_ascii_digit text i (right_of_and (not (is_empty text)) _ e) l) ∙ comma_no_digit (slice_index text i) h))

minus_no_comma : (b : ℕ) → (b == 45) ≡ true → is_comma b ≡ false
minus_no_comma b h = let e : b ≡ 45 = grind (arith, nat_tests) in ap is_comma e

no_number : (text : List ℕ) (i : ℕ) → i < length text → is_comma (slice_index text i) ≡ true → signed_number text ≡ None
no_number [] i l h = absurd (omega arith)
no_number (b ∷ text) i l h = elim (cases_Bool (begins_with (b ∷ text) (codes "-"))) [
  | inl m ↦
      ap (λ v. cond v (cond (is_digit_text text) (Some (neg_ℤ (pos (value_of text)))) None)
      (cond (is_digit_text (b ∷ text)) (Some (pos (value_of (b ∷ text)))) None)) m
      ∙ ap (λ v. cond v (Some (neg_ℤ (pos (value_of text)))) None) (behind i l h (left_of_and (b == 45) true m))
  | inr m ↦
      ap (λ v. cond v (cond (is_digit_text text) (Some (neg_ℤ (pos (value_of text)))) None)
      (cond (is_digit_text (b ∷ text)) (Some (pos (value_of (b ∷ text)))) None)) m
      ∙ ap (λ v. cond v (Some (pos (value_of (b ∷ text)))) None) (not_digits (b ∷ text) i l h)
]
  where
    behind : (i : ℕ) → i < length (b ∷ text) → is_comma (slice_index (b ∷ text) i) ≡ true → (b == 45) ≡ true → is_digit_text text ≡ false
    behind zero l h e = absurd (true≢false (sym h ∙ minus_no_comma b e))
    behind (suc i) l h e = not_digits text i (omega arith) h

-- ---- the parts of a text at its commas

bound : (text : List ℕ) → position_or_len is_comma text ≤ length text
bound [] = omega arith
bound (b ∷ text) = by (is_comma b) (position_or_len is_comma text) (length text) (bound text)
  where
    by : (v : Bool) (n m : ℕ) → n ≤ m → cond (not v) (1 + n) 0 ≤ suc m
    by true n m h = omega arith
    by false n m h = omega arith

alone : (text : List ℕ) → position_or_len is_comma text ≡ length text → slice_split is_comma text ≡ text ∷ []
alone [] h = refl
alone (b ∷ text) h = elim (cases_Bool (is_comma b)) [
  | inl c ↦ absurd (none (is_comma b) (position_or_len is_comma text) (length text) c h)
  | inr c ↦
      let e : position_or_len is_comma text ≡ length text = more (is_comma b) (position_or_len is_comma text) (length text) c h in
      rw (c, alone text e) refl
]
  where
    none : (v : Bool) (n m : ℕ) → v ≡ true → cond (not v) (1 + n) 0 ≡ suc m → ⊥
    none true n m c h = omega (arith, h)
    none false n m c h = cc

    more : (v : Bool) (n m : ℕ) → v ≡ false → cond (not v) (1 + n) 0 ≡ suc m → n ≡ m
    more true n m c h = cc
    more false n m c h = omega (arith, h)

less_or_same : (n m : ℕ) → n ≤ m → (n < m) ⊎ (n ≡ m)
less_or_same n m h = grind arith

two_numbers : (left right : Option ℤ) (p : LayerPosition)
    → (number_found left >>= λ x. number_found right >>= λ y.
    cond (is_claimed_coordinate x && is_claimed_coordinate y) (Ok (record (position_in p) { x = x; y = y })) (Err kinds.OutOfPlane))
    ≡ result_map (λ found. position_in (layer_with_field p found)) (corner_of 62 left right)
two_numbers (Some x) (Some y) p = by (is_claimed_coordinate x && is_claimed_coordinate y)
  where
    by : (v : Bool) → cond v (Ok (record (position_in p) { x = x; y = y })) (Err kinds.OutOfPlane)
        ≡ result_map (λ found. position_in (layer_with_field p found)) (cond v (Ok (Corner x y)) (Err kinds.OutOfPlane))
    by true = refl
    by false = refl
two_numbers (Some x) None p = refl
two_numbers None y p = refl

no_right : (left : Option ℤ) (p : LayerPosition) → result_map (λ found. position_in (layer_with_field p found)) (corner_of 62 left None) ≡ Err kinds.BadNumber
no_right (Some x) p = refl
no_right None p = refl

corner_is : (p : LayerPosition) (text : List ℕ)
    → with_corner (position_in p) (slice_split is_comma text) ≡ result_map (λ found. position_in (layer_with_field p found)) (corner_in 62 text)
corner_is p text = elim (less_or_same (position_or_len is_comma text) (length text) (bound text)) [
  | inr e ↦
      let right : after_first is_comma text ≡ [] = drop_of_length-le text (omega (arith, e)) in
      ap (with_corner (position_in p)) (alone text e)
      ∙ sym (ap (λ (t : List ℕ). result_map (λ found. position_in (layer_with_field p found))
      (corner_of 62 (signed_number (before_first is_comma text)) (signed_number t))) right
      ∙ no_right (signed_number (before_first is_comma text)) p)
  | inl l ↦ ap (with_corner (position_in p)) (slice_split_first is_comma text 0 l) ∙ rest (after_first is_comma text)
]
  where
    left : List ℕ
    left = before_first is_comma text

    rest : (right : List ℕ) → with_corner (position_in p) (before_first is_comma text ∷ slice_split is_comma right)
        ≡ result_map (λ found. position_in (layer_with_field p found)) (corner_of 62 (signed_number (before_first is_comma text)) (signed_number right))
    rest right = elim (less_or_same (position_or_len is_comma right) (length right) (bound right)) [
      | inr e ↦
          ap (λ (t : List (List ℕ)). with_corner (position_in p) (before_first is_comma text ∷ t)) (alone right e)
          ∙ ap (λ (n : Result ℤ Kind). n >>= λ x. claimed_number_of right >>= λ y. cond (is_claimed_coordinate x && is_claimed_coordinate y)
          (Ok (record (position_in p) { x = x; y = y })) (Err kinds.OutOfPlane))
          (number_is (before_first is_comma text))
          ∙ ap (λ (n : Result ℤ Kind). number_found (signed_number (before_first is_comma text)) >>= λ x. n >>= λ y.
          cond (is_claimed_coordinate x && is_claimed_coordinate y) (Ok (record (position_in p) { x = x; y = y })) (Err kinds.OutOfPlane))
          (number_is right)
          ∙ two_numbers (signed_number (before_first is_comma text)) (signed_number right) p
      | inl l ↦
          ap (λ (t : List (List ℕ)). with_corner (position_in p) (before_first is_comma text ∷ t)) (slice_split_first is_comma right 0 l)
          ∙ three (slice_split is_comma (after_first is_comma right)) (some_parts (after_first is_comma right))
          ∙ sym (ap (λ (n : Option ℤ). result_map (λ found. position_in (layer_with_field p found))
          (corner_of 62 (signed_number (before_first is_comma text)) n))
          (no_number right (position_or_len is_comma right) l (passes_at_first is_comma right 0 l)) ∙ no_right (signed_number (before_first is_comma text)) p)
    ]
      where
        three : (parts : List (List ℕ)) → 0 < length parts → with_corner (position_in p) (before_first is_comma text ∷ before_first is_comma right ∷ parts)
            ≡ Err kinds.BadNumber
        three [] h = absurd (omega arith)
        three (part ∷ parts) h = refl

        some_parts : (t : List ℕ) → 0 < length (slice_split is_comma t)
        some_parts t = omega (arith, length-slice_split is_comma t)

-- ---- a field

generation_step : (p : LayerPosition) (r : Result ℕ Kind)
    → (r >>= λ generation. Ok (record (position_in p) { generation = generation }))
    ≡ result_map (λ found. position_in (layer_with_field p found)) (and_then r (λ n. Ok (Generation n)))
generation_step p (Ok n) = refl
generation_step p (Err kind) = refl

field_step : (u v : Bool) (a b : Result PositionFields Kind) (p : LayerPosition) (a' b' : Result Field Kind)
    → a ≡ result_map (λ found. position_in (layer_with_field p found)) a' → b ≡ result_map (λ found. position_in (layer_with_field p found)) b'
    → cond u a (cond v b (Ok (position_in p))) ≡ result_map (λ found. position_in (layer_with_field p found)) (cond u a' (cond v b' (Ok Other)))
field_step true v a b p a' b' e f = e
field_step false true a b p a' b' e f = f
field_step false false a b p a' b' e f = refl

field_is : (p : LayerPosition) (field : List ℕ)
    → claimed_with_field (position_in p) field ≡ result_map (λ found. position_in (layer_with_field p found)) (field_of 62 field)
field_is p field =
    field_step (begins_with field (codes "Pos=")) (begins_with field (codes "Gen=")) _ _ p _ _ (corner_is p (drop 4 field))
    (ap (λ (r : Result ℕ Kind). r >>= λ generation. Ok (record (position_in p) { generation = generation })) (generation_is (drop 4 field))
    ∙ generation_step p (u64_of (drop 4 field)))

fields_are : (p : LayerPosition) (fields : List (List ℕ)) → with_fields (position_in p) fields ≡ result_map position_in (position_with 62 p fields)
fields_are p [] = refl
fields_are p (field ∷ fields) =
    ap (λ (r : Result PositionFields Kind). r >>= λ next. with_fields next fields) (field_is p field) ∙ by (λ q. fields_are q fields) (field_of 62 field)
  where
    by : ((q : LayerPosition) → with_fields (position_in q) fields ≡ result_map position_in (position_with 62 q fields)) → (found : Result Field Kind)
        → (result_map (λ f. position_in (layer_with_field p f)) found >>= λ next. with_fields next fields)
        ≡ result_map position_in (and_then found (λ f. position_with 62 (layer_with_field p f) fields))
    by below (Ok f) = below (layer_with_field p f)
    by below (Err kind) = refl

pub position_is : (line : List ℕ) → with_fields no_position_fields (words_of (drop 6 line)) ≡ result_map position_in (position_of 62 line)
position_is line = fields_are default_position (words_of (drop 6 line))
