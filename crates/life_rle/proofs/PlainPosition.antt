-- A position line is read exactly if it is the text of one.
use Rattle.std.proofs.Common.{◌≡◌, ℕ, suc, ◌+◌, ◌-◌, ◌^◌, ◌<◌, ◌≤◌, Bool, true, false, not, cond, ◌&&◌, ◌⊎◌, inl, inr, List, [], ◌∷◌, ◌++◌, length, take, drop, refl, sym, ap, ◌∙◌, subst, Some, None, Option, Ok, Err, Result, ℤ, pos, neg_ℤ, arith, codes, leb, eqb, take-append-drop}
use Rattle.std.proofs.lemmas.Bool.Decides.{nat_tests}
use Rattle.std.proofs.lemmas.Slice.Eq.{bytes_eq-Decides}
use Rattle.std.proofs.lemmas.Bool.{and_parts}
use Rattle.std.proofs.lemmas.Option.{same_Some}
use Rattle.std.proofs.Math.Seq.{take-append_seam}
use Rattle.std.specs.Char.{is_ascii_digit}
use Rattle.std.specs.List.{list_all, before_first, after_first, position_or_len}
use Rattle.life_base.specs.declared.kind.Kind.{Kind}
use Rattle.life_base.specs.declared.kind.Kind.TheVariants.{BadNumber, TooLarge, OutOfPlane}
use Rattle.life_base.specs.Text.{is_empty, is_blank, begins_with, is_digit_text, value_of, words_of}
use Rattle.life_base.specs.Numbers.{u64_of}
use Rattle.life_rle.specs.declared.position.Position.{Position}
use Rattle.life_rle.specs.Plane.{is_coordinate}
use Rattle.life_rle.specs.Position.{Field, Corner, Generation, Other, default_position, and_then, is_position_line, signed_number, corner_of, corner_in, field_of, position_with_field, position_with, position_of}
use Rattle.life_rle.specs.PlainPosition.{AreWords, IsNumberText, IsFieldText, corner, generation, other, IsNoField, no_corner, outside, no_generation, large, AreFields, HasNoCorner, HasNoGeneration, IsLastCorner, IsLastGeneration, IsPositionText, IsNoPosition, PositionsArePlain}
use Rattle.life_rle.proofs.ReadPosition.{is_plain, digits-plain, signed_number-digits, before-comma, after-comma}
use Rattle.life_rle.proofs.PlainWords.{AreWords-words_of, words_of-AreWords, no}

-- ---- words at the beginning

-- a text begins with a word exactly if it is that word and a rest
begins-split : (text word : List ℕ) → begins_with text word ≡ true → text ≡ word ++ drop (length word) text
begins-split text word h = sym (take-append-drop (length word) text)
    ∙ ap (λ (t : List ℕ). t ++ drop (length word) text) ((bytes_eq-Decides (take (length word) text) word).0 h)

split-begins : (word rest : List ℕ) → begins_with (word ++ rest) word ≡ true
split-begins word rest = (bytes_eq-Decides (take (length word) (word ++ rest)) word).1 (take-append_seam word rest)

begins-not : (text word : List ℕ) → begins_with text word ≡ false → (rest : List ℕ) → text ≡ word ++ rest → ⊥
begins-not text word h rest e = no (sym (ap (λ (t : List ℕ). begins_with t word) e ∙ split-begins word rest) ∙ h)

not-begins : (text word : List ℕ) → ((rest : List ℕ) → text ≡ word ++ rest → ⊥) → begins_with text word ≡ false
not-begins text word h =
    elim (begins_with text word) as (λ t. begins_with text word ≡ t → t ≡ false)
    [ true ↦ λ e. absurd (h (drop (length word) text) (begins-split text word e)) | false ↦ λ _. refl ] refl

-- ---- numbers

digits-number : (text : List ℕ) (z : ℤ) → cond (is_digit_text text) (Some (pos (value_of text))) None ≡ Some z → (is_digit_text text ≡ true)
    × (z ≡ pos (value_of text))
digits-number text z =
    elim (is_digit_text text) as (λ t. cond t (Some (pos (value_of text))) None ≡ Some z → (t ≡ true) × (z ≡ pos (value_of text)))
    [ true ↦ λ h. (refl, sym (same_Some _ _ h)) | false ↦ λ h. cc ]

minus-number : (digits : List ℕ) (z : ℤ) → cond (is_digit_text digits) (Some (neg_ℤ (pos (value_of digits)))) None ≡ Some z → (is_digit_text digits ≡ true)
    × (z ≡ neg_ℤ (pos (value_of digits)))
minus-number digits z =
    elim (is_digit_text digits) as (λ t. cond t (Some (neg_ℤ (pos (value_of digits)))) None ≡ Some z → (t ≡ true) × (z ≡ neg_ℤ (pos (value_of digits))))
    [ true ↦ λ h. (refl, sym (same_Some _ _ h)) | false ↦ λ h. cc ]

number-text : (text : List ℕ) (z : ℤ) → signed_number text ≡ Some z → IsNumberText text z
number-text text z =
    let rest = drop 1 text in
    elim (begins_with text (codes "-"))
    as (λ t. begins_with text (codes "-") ≡ t → cond t (cond (is_digit_text rest) (Some (neg_ℤ (pos (value_of rest)))) None)
    (cond (is_digit_text text) (Some (pos (value_of text))) None) ≡ Some z → IsNumberText text z) [
      | true ↦ λ e h. let m = minus-number rest z h in inr (rest, begins-split text (codes "-") e, m.0, m.1)
      | false ↦ λ _ h. inl (digits-number text z h)
    ] refl

text-number : (text : List ℕ) (z : ℤ) → IsNumberText text z → signed_number text ≡ Some z
text-number text z (inl h) = signed_number-digits text h.0 ∙ ap Some (sym h.1)
text-number text z (inr h) =
    ap signed_number h.1 ∙ ap (λ t. cond t (Some (neg_ℤ (pos (value_of h.0)))) None) h.2 ∙ ap Some (sym h.3)

-- no byte of a number is a comma
number-plain : (text : List ℕ) (z : ℤ) → IsNumberText text z → list_all is_plain text ≡ true
number-plain text z (inl h) = digits-plain text (and_parts (not (is_empty text)) (list_all is_ascii_digit text) h.0).1
number-plain text z (inr h) =
    ap (list_all is_plain) h.1 ∙ digits-plain h.0 (and_parts (not (is_empty h.0)) (list_all is_ascii_digit h.0) h.2).1

-- ---- the corner

abbrev IsCutBy : ℕ → ℕ → List ℕ → Type 0
IsCutBy n m text = (text ≡ take n text ++ 44 ∷ drop m text) ⊎ (drop m text ≡ [])

abbrev IsCutAt : ℕ → List ℕ → Type 0
IsCutAt n text = IsCutBy n (n + 1) text

-- a text with a comma is what stands before the first, the comma, and what comes after it
at-comma : (text : List ℕ) → IsCutAt (position_or_len (λ b. eqb b 44) text) text
at-comma [] = inr refl
at-comma (b ∷ text) = by (eqb b 44) refl (at-comma text)
  where
    onto : (n m : ℕ) → IsCutBy n m text → IsCutBy (suc n) (suc m) (b ∷ text)
    onto n m (inl e) = inl (ap (λ (t : List ℕ). b ∷ t) e)
    onto n m (inr e) = inr e

    by : (t : Bool) → eqb b 44 ≡ t → IsCutAt (position_or_len (λ b. eqb b 44) text) text → IsCutAt (position_or_len (λ b. eqb b 44) (b ∷ text)) (b ∷ text)
    by true e more =
        let first : b ≡ 44 = grind (arith, nat_tests, e) in
        let here : IsCutAt 0 (b ∷ text) = inl (ap (λ (n : ℕ). n ∷ text) first) in
        subst (λ n. IsCutAt n (b ∷ text)) (sym (ap (λ t. cond (not t) (1 + position_or_len (λ b. eqb b 44) text) 0) e)) here
    by false e more =
        let next : 1 + position_or_len (λ b. eqb b 44) text ≡ suc (position_or_len (λ b. eqb b 44) text) = omega arith in
        let behind : suc (position_or_len (λ b. eqb b 44) text + 1) ≡ suc (position_or_len (λ b. eqb b 44) text) + 1 = omega arith in
        subst (λ n. IsCutAt n (b ∷ text)) (sym (ap (λ t. cond (not t) (1 + position_or_len (λ b. eqb b 44) text) 0) e ∙ next))
        (subst (λ m. IsCutBy (suc (position_or_len (λ b. eqb b 44) text)) m (b ∷ text)) behind
        (onto (position_or_len (λ b. eqb b 44) text) (position_or_len (λ b. eqb b 44) text + 1) more))

abbrev before : List ℕ → List ℕ
before text = before_first (λ b. eqb b 44) text

abbrev behind : List ℕ → List ℕ
behind text = after_first (λ b. eqb b 44) text

-- where two numbers are read, a comma stands between them
two-numbers : (text : List ℕ) (y : ℤ) → signed_number (behind text) ≡ Some y → text ≡ before text ++ (codes "," ++ behind text)
two-numbers text y k = by (at-comma text)
  where
    by : IsCutAt (position_or_len (λ b. eqb b 44) text) text → text ≡ before text ++ (codes "," ++ behind text)
    by (inl e) = e
    by (inr e) = let n : None ≡ Some y = sym (ap signed_number e) ∙ k in cc

number-before : (text left right : List ℕ) (x : ℤ) → text ≡ left ++ (codes "," ++ right) → IsNumberText left x → signed_number (before text) ≡ Some x
number-before text left right x e h = ap signed_number (ap before e ∙ before-comma left right (number-plain left x h)) ∙ text-number left x h

number-behind : (text left right : List ℕ) (x y : ℤ) → text ≡ left ++ (codes "," ++ right) → IsNumberText left x → IsNumberText right y
    → signed_number (behind text) ≡ Some y
number-behind text left right x y e h k = ap signed_number (ap behind e ∙ after-comma left right (number-plain left x h)) ∙ text-number right y k

corner-read : (level : ℕ) (text left right : List ℕ) (x y : ℤ) → text ≡ left ++ (codes "," ++ right) → IsNumberText left x → IsNumberText right y
    → corner_in level text ≡ corner_of level (Some x) (Some y)
corner-read level text left right x y e h k =
    ap (λ a. corner_of level a (signed_number (behind text))) (number-before text left right x e h)
    ∙ ap (corner_of level (Some x)) (number-behind text left right x y e h k)

abbrev pos_text : List ℕ → List ℕ
pos_text rest = codes "Pos=" ++ rest

-- what a field is by what is read of it
abbrev IsReadAs : ℕ → List ℕ → Result Field Kind → Type 0
IsReadAs level text (Ok field) = IsFieldText level text field
IsReadAs level text (Err kind) = IsNoField level text kind

corner-IsReadAs : (level : ℕ) (text rest : List ℕ) (a b : Option ℤ) → text ≡ pos_text rest → signed_number (before rest) ≡ a
    → signed_number (behind rest) ≡ b → IsReadAs level text (corner_of level a b)
corner-IsReadAs level text rest None b t e f =
    no_corner rest t (λ left right x y s l r. let n : None ≡ Some x = sym e ∙ number-before rest left right x s l in cc) refl
corner-IsReadAs level text rest (Some x) None t e f =
    no_corner rest t (λ left right z y s l r. let n : None ≡ Some y = sym f ∙ number-behind rest left right z y s l r in cc) refl
corner-IsReadAs level text rest (Some x) (Some y) t e f = by (is_coordinate level x && is_coordinate level y) refl
  where
    whole : text ≡ pos_text (before rest ++ (codes "," ++ behind rest))
    whole = t ∙ ap pos_text (two-numbers rest y f)

    by : (v : Bool) → (is_coordinate level x && is_coordinate level y) ≡ v → IsReadAs level text (cond v (Ok (Corner x y)) (Err OutOfPlane))
    by true v =
        let parts = and_parts (is_coordinate level x) (is_coordinate level y) v in
        corner (before rest) (behind rest) x y whole (number-text (before rest) x e) (number-text (behind rest) y f) parts.0 parts.1 refl
    by false v = outside (before rest) (behind rest) x y whole (number-text (before rest) x e) (number-text (behind rest) y f) v refl

no-numbers : (level : ℕ) (rest : List ℕ) (a b : Option ℤ) → signed_number (before rest) ≡ a → signed_number (behind rest) ≡ b
    → ((left right : List ℕ) (x y : ℤ) → rest ≡ left ++ (codes "," ++ right) → IsNumberText left x → IsNumberText right y → ⊥)
    → corner_of level a b ≡ Err BadNumber
no-numbers level rest None b e f h = refl
no-numbers level rest (Some x) None e f h = refl
no-numbers level rest (Some x) (Some y) e f h = absurd
    (h (before rest) (behind rest) x y (two-numbers rest y f) (number-text (before rest) x e) (number-text (behind rest) y f))

-- ---- the generation

abbrev gen_text : List ℕ → List ℕ
gen_text rest = codes "Gen=" ++ rest

abbrev generation_by : Bool → Bool → ℕ → Result Field Kind
generation_by digits fits n = and_then (cond (not digits) (Err BadNumber) (cond fits (Ok n) (Err TooLarge))) (λ n. Ok (Generation n))

fits-below : (n : ℕ) → leb n (2 ^ 64 - 1) ≡ true → n < 2 ^ 64
fits-below n h = grind (arith, nat_tests)

below-fits : (n : ℕ) → n < 2 ^ 64 → leb n (2 ^ 64 - 1) ≡ true
below-fits n h = grind (arith, nat_tests)

fits-not : (n : ℕ) → leb n (2 ^ 64 - 1) ≡ false → 2 ^ 64 ≤ n
fits-not n h = grind (arith, nat_tests)

not-fits : (n : ℕ) → 2 ^ 64 ≤ n → leb n (2 ^ 64 - 1) ≡ false
not-fits n h = grind (arith, nat_tests)

generation-IsReadAs : (level : ℕ) (text rest : List ℕ) (digits fits : Bool) → text ≡ gen_text rest → is_digit_text rest ≡ digits
    → leb (value_of rest) (2 ^ 64 - 1) ≡ fits → IsReadAs level text (generation_by digits fits (value_of rest))
generation-IsReadAs level text rest false fits t d f = no_generation rest t d refl
generation-IsReadAs level text rest true false t d f = large rest t d (fits-not (value_of rest) f) refl
generation-IsReadAs level text rest true true t d f = generation rest t d (fits-below (value_of rest) f) refl

-- ---- a field

abbrev field_by : ℕ → List ℕ → Bool → Bool → Result Field Kind
field_by level text at_pos at_gen =
    cond at_pos (corner_in level (drop 4 text)) (cond at_gen (and_then (u64_of (drop 4 text)) (λ n. Ok (Generation n))) (Ok Other))

field-IsReadAs_by : (level : ℕ) (text : List ℕ) (p g : Bool) → begins_with text (codes "Pos=") ≡ p → begins_with text (codes "Gen=") ≡ g
    → IsReadAs level text (field_by level text p g)
field-IsReadAs_by level text true g e f =
    let rest = drop 4 text in
    corner-IsReadAs level text rest (signed_number (before rest)) (signed_number (behind rest)) (begins-split text (codes "Pos=") e) refl refl
field-IsReadAs_by level text false true e f =
    let rest = drop 4 text in
    generation-IsReadAs level text rest (is_digit_text rest) (leb (value_of rest) (2 ^ 64 - 1)) (begins-split text (codes "Gen=") f) refl refl
field-IsReadAs_by level text false false e f = other (begins-not text (codes "Pos=") e) (begins-not text (codes "Gen=") f) refl

field-IsReadAs : (level : ℕ) (text : List ℕ) → IsReadAs level text (field_of level text)
field-IsReadAs level text = field-IsReadAs_by level text (begins_with text (codes "Pos=")) (begins_with text (codes "Gen=")) refl refl

field-text : (level : ℕ) (text : List ℕ) (field : Field) → field_of level text ≡ Ok field → IsFieldText level text field
field-text level text field h = subst (IsReadAs level text) h (field-IsReadAs level text)

field-fault : (level : ℕ) (text : List ℕ) (kind : Kind) → field_of level text ≡ Err kind → IsNoField level text kind
field-fault level text kind h = subst (IsReadAs level text) h (field-IsReadAs level text)

at-pos : (level : ℕ) (text rest : List ℕ) → text ≡ pos_text rest → field_of level text ≡ corner_in level rest
at-pos level text rest e = ap (field_of level) e

at-gen : (level : ℕ) (text rest : List ℕ) → text ≡ gen_text rest → field_of level text ≡ generation_by (is_digit_text rest) (leb (value_of rest) (2 ^ 64 - 1))
    (value_of rest)
at-gen level text rest e = ap (field_of level) e

text-field : (level : ℕ) (text : List ℕ) (field : Field) → IsFieldText level text field → field_of level text ≡ Ok field
text-field level text field (corner left right x y t l r cx cy e) =
    at-pos level text (left ++ (codes "," ++ right)) t ∙ corner-read level (left ++ (codes "," ++ right)) left right x y refl l r
    ∙ ap (λ v. cond (v && is_coordinate level y) (Ok (Corner x y)) (Err OutOfPlane)) cx ∙ ap (λ v. cond v (Ok (Corner x y)) (Err OutOfPlane)) cy ∙ ap Ok (sym e)
text-field level text field (generation digits t d below e) =
    at-gen level text digits t ∙ ap (λ v. generation_by v (leb (value_of digits) (2 ^ 64 - 1)) (value_of digits)) d
    ∙ ap (λ v. generation_by true v (value_of digits)) (below-fits (value_of digits) below) ∙ ap Ok (sym e)
text-field level text field (other p g e) =
    ap (λ v. field_by level text v (begins_with text (codes "Gen="))) (not-begins text (codes "Pos=") p)
    ∙ ap (λ v. field_by level text false v) (not-begins text (codes "Gen=") g) ∙ ap Ok (sym e)

fault-field : (level : ℕ) (text : List ℕ) (kind : Kind) → IsNoField level text kind → field_of level text ≡ Err kind
fault-field level text kind (no_corner rest t h e) =
    at-pos level text rest t ∙ no-numbers level rest (signed_number (before rest)) (signed_number (behind rest)) refl refl h ∙ ap Err (sym e)
fault-field level text kind (outside left right x y t l r c e) =
    at-pos level text (left ++ (codes "," ++ right)) t ∙ corner-read level (left ++ (codes "," ++ right)) left right x y refl l r
    ∙ ap (λ v. cond v (Ok (Corner x y)) (Err OutOfPlane)) c ∙ ap Err (sym e)
fault-field level text kind (no_generation rest t d e) =
    at-gen level text rest t ∙ ap (λ v. generation_by v (leb (value_of rest) (2 ^ 64 - 1)) (value_of rest)) d ∙ ap Err (sym e)
fault-field level text kind (large digits t d above e) =
    at-gen level text digits t ∙ ap (λ v. generation_by v (leb (value_of digits) (2 ^ 64 - 1)) (value_of digits)) d
    ∙ ap (λ v. generation_by true v (value_of digits)) (not-fits (value_of digits) above) ∙ ap Err (sym e)

-- ---- fields, one after another

abbrev with_fields : Position → List Field → Position
with_fields o [] = o
with_fields o (field ∷ fields) = with_fields (position_with_field o field) fields

abbrev ReadsFields : ℕ → Position → List (List ℕ) → Position → Type 0
ReadsFields level o words p = (fields : List Field) × AreFields level words fields × (p ≡ with_fields o fields)

read-fields : (level : ℕ) (o p : Position) (words : List (List ℕ)) → position_with level o words ≡ Ok p → ReadsFields level o words p
read-fields level o p [] h = let same : p ≡ o = cc in ([], tt, same)
read-fields level o p (word ∷ words) h = by (field_of level word) refl h (λ field k. read-fields level (position_with_field o field) p words k)
  where
    by : (r : Result Field Kind) → field_of level word ≡ r → and_then r (λ found. position_with level (position_with_field o found) words) ≡ Ok p
        → ((field : Field) → position_with level (position_with_field o field) words ≡ Ok p → ReadsFields level (position_with_field o field) words p)
        → ReadsFields level o (word ∷ words) p
    by (Ok field) e k next = let more = next field k in (field ∷ more.0, (field-text level word field e, more.1), more.2)
    by (Err kind) e k next = cc

fields-read : (level : ℕ) (o : Position) (words : List (List ℕ)) (fields : List Field) → AreFields level words fields
    → position_with level o words ≡ Ok (with_fields o fields)
fields-read level o [] [] h = refl
fields-read level o [] (field ∷ fields) h = absurd h
fields-read level o (word ∷ words) [] h = absurd h
fields-read level o (word ∷ words) (field ∷ fields) h =
    ap (λ r. and_then r (λ found. position_with level (position_with_field o found) words)) (text-field level word field h.0)
    ∙ fields-read level (position_with_field o field) words fields h.1

-- words of which the first that is no field breaks this rule
record ReadsFault (level : ℕ) (words : List (List ℕ)) (kind : Kind) : Type 0 where
  prefix : List (List ℕ)
  word : List ℕ
  rest : List (List ℕ)
  fields : List Field
  whole : words ≡ prefix ++ word ∷ rest
  each : AreFields level prefix fields
  fault : IsNoField level word kind

read-fault : (level : ℕ) (o : Position) (words : List (List ℕ)) (kind : Kind) → position_with level o words ≡ Err kind → ReadsFault level words kind
read-fault level o [] kind h = cc
read-fault level o (word ∷ words) kind h = by (field_of level word) refl h (λ field k. read-fault level (position_with_field o field) words kind k)
  where
    by : (r : Result Field Kind) → field_of level word ≡ r → and_then r (λ found. position_with level (position_with_field o found) words) ≡ Err kind
        → ((field : Field) → position_with level (position_with_field o field) words ≡ Err kind → ReadsFault level words kind)
        → ReadsFault level (word ∷ words) kind
    by (Ok field) e k next =
        let more = next field k in
        record {
          prefix = word ∷ more.prefix;
          word = more.word;
          rest = more.rest;
          fields = field ∷ more.fields;
          whole = ap (λ (ws : List (List ℕ)). word ∷ ws) more.whole;
          each = (field-text level word field e, more.each);
          fault = more.fault;
        }
    by (Err found) e k next =
        let same : found ≡ kind = cc in
        record { prefix = []; word = word; rest = words; fields = []; whole = refl; each = tt; fault = field-fault level word kind (e ∙ ap Err same) }

fault-read : (level : ℕ) (o : Position) (prefix : List (List ℕ)) (word : List ℕ) (rest : List (List ℕ)) (fields : List Field) (kind : Kind)
    → AreFields level prefix fields → IsNoField level word kind → position_with level o (prefix ++ word ∷ rest) ≡ Err kind
fault-read level o [] word rest fields kind h n =
    ap (λ r. and_then r (λ found. position_with level (position_with_field o found) rest)) (fault-field level word kind n)
fault-read level o (first ∷ prefix) word rest [] kind h n = absurd h
fault-read level o (first ∷ prefix) word rest (field ∷ fields) kind h n =
    ap (λ r. and_then r (λ found. position_with level (position_with_field o found) (prefix ++ word ∷ rest))) (text-field level first field h.0)
    ∙ fault-read level (position_with_field o field) prefix word rest fields kind h.1 n

-- ---- the last of several fields counts

abbrev LastCorner : Position → List Field → ℤ → ℤ → Type 0
LastCorner o fields x y =
    (HasNoCorner fields × (x ≡ o.x) × (y ≡ o.y)) ⊎ ((prefix rest : List Field) × (fields ≡ prefix ++ Corner x y ∷ rest) × HasNoCorner rest)

abbrev LastGeneration : Position → List Field → ℕ → Type 0
LastGeneration o fields n =
    (HasNoGeneration fields × (n ≡ o.generation)) ⊎ ((prefix rest : List Field) × (fields ≡ prefix ++ Generation n ∷ rest) × HasNoGeneration rest)

corner-behind : (o p : Position) (field : Field) (fields : List Field) (x y : ℤ)
    → (HasNoCorner fields → (x ≡ p.x) × (y ≡ p.y) → LastCorner o (field ∷ fields) x y)
    → LastCorner p fields x y → LastCorner o (field ∷ fields) x y
corner-behind o p field fields x y f (inl h) = f h.0 (h.1, h.2)
corner-behind o p field fields x y f (inr h) = inr (field ∷ h.0, h.1, ap (λ (fs : List Field). field ∷ fs) h.2, h.3)

last-corner : (o : Position) (fields : List Field) → LastCorner o fields (with_fields o fields).x (with_fields o fields).y
last-corner o [] = inl (tt, refl, refl)
last-corner o (Corner a b ∷ fields) =
    let p : Position = position_with_field o (Corner a b) in
    let last : Position = with_fields p fields in
    corner-behind o p (Corner a b) fields last.x last.y
    (λ n e. inr ([], fields, ap (λ (z : ℤ). Corner z b ∷ fields) (sym e.0) ∙ ap (λ (z : ℤ). Corner last.x z ∷ fields) (sym e.1), n)) (last-corner p fields)
last-corner o (Generation n ∷ fields) =
    let p : Position = position_with_field o (Generation n) in
    corner-behind o p (Generation n) fields (with_fields p fields).x (with_fields p fields).y (λ h e. inl (h, e.0, e.1)) (last-corner p fields)
last-corner o (Other ∷ fields) = corner-behind o o Other fields (with_fields o fields).x (with_fields o fields).y (λ h e. inl (h, e.0, e.1))
    (last-corner o fields)

generation-behind : (o p : Position) (field : Field) (fields : List Field) (n : ℕ)
    → (HasNoGeneration fields → n ≡ p.generation → LastGeneration o (field ∷ fields) n)
    → LastGeneration p fields n → LastGeneration o (field ∷ fields) n
generation-behind o p field fields n f (inl h) = f h.0 h.1
generation-behind o p field fields n f (inr h) = inr (field ∷ h.0, h.1, ap (λ (fs : List Field). field ∷ fs) h.2, h.3)

last-generation : (o : Position) (fields : List Field) → LastGeneration o fields (with_fields o fields).generation
last-generation o [] = inl (tt, refl)
last-generation o (Corner a b ∷ fields) =
    let p : Position = position_with_field o (Corner a b) in
    generation-behind o p (Corner a b) fields (with_fields p fields).generation (λ h e. inl (h, e)) (last-generation p fields)
last-generation o (Generation n ∷ fields) =
    let p : Position = position_with_field o (Generation n) in
    let last : Position = with_fields p fields in
    generation-behind o p (Generation n) fields last.generation (λ h e. inr ([], fields, ap (λ (k : ℕ). Generation k ∷ fields) (sym e), h))
    (last-generation p fields)
last-generation o (Other ∷ fields) = generation-behind o o Other fields (with_fields o fields).generation (λ h e. inl (h, e)) (last-generation o fields)

kept-corner : (o : Position) (fields : List Field) → HasNoCorner fields → ((with_fields o fields).x ≡ o.x) × ((with_fields o fields).y ≡ o.y)
kept-corner o [] h = (refl, refl)
kept-corner o (Corner x y ∷ fields) h = absurd h
kept-corner o (Generation n ∷ fields) h = kept-corner (position_with_field o (Generation n)) fields h
kept-corner o (Other ∷ fields) h = kept-corner o fields h

kept-generation : (o : Position) (fields : List Field) → HasNoGeneration fields → (with_fields o fields).generation ≡ o.generation
kept-generation o [] h = refl
kept-generation o (Corner x y ∷ fields) h = kept-generation (position_with_field o (Corner x y)) fields h
kept-generation o (Generation n ∷ fields) h = absurd h
kept-generation o (Other ∷ fields) h = kept-generation o fields h

with-append : (o : Position) (prefix rest : List Field) → with_fields o (prefix ++ rest) ≡ with_fields (with_fields o prefix) rest
with-append o [] rest = refl
with-append o (field ∷ prefix) rest = with-append (position_with_field o field) prefix rest

corner-last : (o : Position) (fields : List Field) (x y : ℤ) → LastCorner o fields x y → ((with_fields o fields).x ≡ x) × ((with_fields o fields).y ≡ y)
corner-last o fields x y (inl h) = let k = kept-corner o fields h.0 in (k.0 ∙ sym h.1, k.1 ∙ sym h.2)
corner-last o fields x y (inr h) =
    let e : with_fields o fields ≡ with_fields (position_with_field (with_fields o h.0) (Corner x y)) h.1 = ap (with_fields o) h.2
    ∙ with-append o h.0 (Corner x y ∷ h.1) in
    let k = kept-corner (position_with_field (with_fields o h.0) (Corner x y)) h.1 h.3 in
    (ap (λ (p : Position). p.x) e ∙ k.0, ap (λ (p : Position). p.y) e ∙ k.1)

generation-last : (o : Position) (fields : List Field) (n : ℕ) → LastGeneration o fields n → (with_fields o fields).generation ≡ n
generation-last o fields n (inl h) = kept-generation o fields h.0 ∙ sym h.1
generation-last o fields n (inr h) =
    let e : with_fields o fields ≡ with_fields (position_with_field (with_fields o h.0) (Generation n)) h.1 = ap (with_fields o) h.2
    ∙ with-append o h.0 (Generation n ∷ h.1) in
    ap (λ (p : Position). p.generation) e ∙ kept-generation (position_with_field (with_fields o h.0) (Generation n)) h.1 h.3

same-position : (p q : Position) → p.x ≡ q.x → p.y ≡ q.y → p.generation ≡ q.generation → p ≡ q
same-position p q x y n =
    ap (λ (z : ℤ). record { x = z; y = p.y; generation = p.generation }) x
    ∙ ap (λ (z : ℤ). record { x = q.x; y = z; generation = p.generation }) y
    ∙ ap (λ (m : ℕ). record { x = q.x; y = q.y; generation = m }) n

-- ---- a line

text-position : (level : ℕ) (line : List ℕ) (position : Position) → IsPositionText level line position → (is_position_line line ≡ true)
    × (position_of level line ≡ Ok position)
text-position level line position h =
    let w = AreWords-words_of h.words h.text h.apart in
    let c = corner-last default_position h.fields position.x position.y h.corner in
    let p : with_fields default_position h.fields ≡ position = same-position (with_fields default_position h.fields) position c.0 c.1
    (generation-last default_position h.fields position.generation h.generation) in (
      ap is_position_line h.whole ∙ w.0,
      ap (position_of level) h.whole ∙ ap (position_with level default_position) w.1 ∙ fields-read level default_position h.words h.fields h.each ∙ ap Ok p,
    )

position-text : (level : ℕ) (line : List ℕ) (position : Position) → (is_position_line line ≡ true) × (position_of level line ≡ Ok position)
    → IsPositionText level line position
position-text level line position h =
    let text : List ℕ = drop 6 line in
    let parts = and_parts (begins_with line (codes "#CXRLE")) (is_blank (take 1 text)) h.0 in
    let read = read-fields level default_position position (words_of text) h.1 in
    record {
      text = text;
      words = words_of text;
      fields = read.0;
      whole = begins-split line (codes "#CXRLE") parts.0;
      apart = words_of-AreWords text parts.1;
      each = read.1;
      corner = subst (λ (p : Position). IsLastCorner read.0 p.x p.y) (sym read.2) (last-corner default_position read.0);
      generation = subst (λ (p : Position). IsLastGeneration read.0 p.generation) (sym read.2) (last-generation default_position read.0);
    }

fault-position : (level : ℕ) (line : List ℕ) (kind : Kind) → IsNoPosition level line kind → (is_position_line line ≡ true) × (position_of level line ≡ Err kind)
fault-position level line kind h =
    let w = AreWords-words_of (h.words ++ h.word ∷ h.behind) h.text h.apart in (
      ap is_position_line h.whole ∙ w.0,
      ap (position_of level) h.whole ∙ ap (position_with level default_position) w.1 ∙ fault-read level default_position h.words h.word h.behind h.fields kind
          h.each h.fault,
    )

position-fault : (level : ℕ) (line : List ℕ) (kind : Kind) → (is_position_line line ≡ true) × (position_of level line ≡ Err kind) → IsNoPosition level line kind
position-fault level line kind h =
    let text : List ℕ = drop 6 line in
    let parts = and_parts (begins_with line (codes "#CXRLE")) (is_blank (take 1 text)) h.0 in
    let read = read-fault level default_position (words_of text) kind h.1 in
    record {
      text = text;
      words = read.prefix;
      word = read.word;
      behind = read.rest;
      fields = read.fields;
      whole = begins-split line (codes "#CXRLE") parts.0;
      apart = subst (AreWords text) read.whole (words_of-AreWords text parts.1);
      each = read.each;
      fault = read.fault;
    }

pub positions_are_plain : PositionsArePlain
positions_are_plain level line = (
  λ position. (position-text level line position, text-position level line position),
  λ kind. (position-fault level line kind, fault-position level line kind),
)
