-- Numbers of few digits at the beginning of a text.
use Rattle.std.proofs.Common.{◌≡◌, ℕ, zero, suc, ◌+◌, ◌-◌, ◌*◌, ◌%◌, ◌^◌, ◌<◌, ◌≤◌, true, false, ◌&&◌, List, [], ◌∷◌, take, drop, get_or, length, length-drop, refl, ap, sym, ◌∙◌, add-one, arith, drop-drop, get_or-drop}
use Rattle.std.specs.Char.{is_ascii_digit, digit_value}
use Rattle.std.specs.List.{list_all}
use Rattle.std.proofs.Math.Nat.{pow-suc, pow-le-pow_right}
use Rattle.std.proofs.lemmas.Bool.Decides.{nat_tests}
use Rattle.std.proofs.lemmas.Int.Digits.{digits_value_more}
use Rattle.std.proofs.Math.Seq.{drop-length}
use Rattle.std.proofs.lemmas.List.{drop_more}
use Rattle.std.proofs.lemmas.List.Folds.{list_all_more}
use Rattle.std.proofs.lemmas.Bool.{and_parts}
use Rattle.life_mc.proofs.Words.{digit_no_space}
use Rattle.life_base.specs.Numbers.{capped_number}
use Rattle.life_base.specs.Text.{is_blank, is_whitespace, is_digit_text, onto_first, value_of, words_of}
use Rattle.life_mc.specs.Standing.{IsLastNumber, IsSpacedNumber, WritesBetween}

-- ---- how large a number is

-- a number of fewer than 19 digits
pub short : (n i : ℕ) → n < 10 ^ i → i < 19 → n < 1000000000000000000
short n i h l =
    let m : 10 ^ i ≤ 10 ^ 18 = pow-le-pow_right {n = 10} (omega arith) {i = i} {j = 18} (omega (arith, l)) in
    omega (arith, h, m)

-- one digit more
pub longer : (n d i : ℕ) → n < 10 ^ i → d ≤ 9 → n * 10 + d < 10 ^ (i + 1)
longer n d i h l =
    let e : 10 ^ (i + 1) ≡ 10 ^ i * 10 = ap (λ k. 10 ^ k) (add-one i) ∙ pow-suc 10 i in
    omega (arith, h, l, e)

digit_is : (b : ℕ) → is_ascii_digit b ≡ true → digit_value b ≡ b - 48
digit_is b h = grind (arith, nat_tests)

pub digit_small : (b : ℕ) → is_ascii_digit b ≡ true → b - 48 ≤ 9
digit_small b h = grind (arith, nat_tests)

pub one_more : (text : List ℕ) (i n : ℕ) → i < length text → is_ascii_digit (get_or text i 0) ≡ true → n ≡ value_of (take i text)
    → n * 10 + (get_or text i 0 - 48) ≡ value_of (take (i + 1) text)
one_more text i n h d e = omega (arith, digits_value_more 10 text i h, digit_is (get_or text i 0) d, e)

-- ---- after a place

-- the byte at a place after another
at_place : (text : List ℕ) (from i : ℕ) → from ≤ i → get_or (drop from text) (i - from) 0 ≡ get_or text i 0
at_place text from i h =
    let e : from + (i - from) ≡ i = omega (arith, h) in
    get_or-drop from text (i - from) 0 ∙ ap (λ k. get_or text k 0) e

within_rest : (text : List ℕ) (from i : ℕ) → from ≤ i → i < length text → i - from < length (drop from text)
within_rest text from i h l = omega (arith, h, l, length-drop from text)

next_place : (from i : ℕ) → from ≤ i → i - from + 1 ≡ i + 1 - from
next_place from i h = omega (arith, h)

pub digits_behind : (text : List ℕ) (from i : ℕ) → from ≤ i → i < length text → is_ascii_digit (get_or text i 0) ≡ true
    → list_all is_ascii_digit (take (i - from) (drop from text)) ≡ true → list_all is_ascii_digit (take (i + 1 - from) (drop from text)) ≡ true
digits_behind text from i h l d e =
    let rest = drop from text in
    ap (λ k. list_all is_ascii_digit (take k rest)) (sym (next_place from i h))
    ∙ list_all_more is_ascii_digit rest (i - from) 0 (within_rest text from i h l)
    ∙ ap (λ v. v && is_ascii_digit (get_or rest (i - from) 0)) e ∙ ap is_ascii_digit (at_place text from i h) ∙ d

pub number_behind : (text : List ℕ) (from i n : ℕ) → from ≤ i → i < length text → is_ascii_digit (get_or text i 0) ≡ true
    → n ≡ value_of (take (i - from) (drop from text)) → n * 10 + (get_or text i 0 - 48) ≡ value_of (take (i + 1 - from) (drop from text))
number_behind text from i n h l d e =
    let rest = drop from text in
    let at = at_place text from i h in
    ap (λ b. n * 10 + (b - 48)) (sym at) ∙ one_more rest (i - from) n (within_rest text from i h l) (ap is_ascii_digit at ∙ d) e
    ∙ ap (λ k. value_of (take k rest)) (next_place from i h)

pub size_behind : (n d from i : ℕ) → from ≤ i → n < 10 ^ (i - from) → d ≤ 9 → n * 10 + d < 10 ^ (i + 1 - from)
size_behind n d from i h l m = ap_less (next_place from i h) (longer n d (i - from) l m)
  where
    ap_less : {j k : ℕ} → j ≡ k → n * 10 + d < 10 ^ j → n * 10 + d < 10 ^ k
    ap_less e p = rw (sym e) p

-- ---- the word that they are

goes_on : (b : ℕ) (rest : List ℕ) → is_whitespace b ≡ false → is_blank (take 1 rest) ≡ false → words_of (b ∷ rest) ≡ onto_first b (words_of rest)
goes_on b rest h n = rw (h, n) refl

no_blank : (b : ℕ) (rest : List ℕ) → is_whitespace b ≡ false → is_blank (take 1 (b ∷ rest)) ≡ false
no_blank b rest h = rw h refl

-- digits at the beginning, after which no word goes on, are a word
pub word_in_prefix : (n : ℕ) (text : List ℕ) → 0 < n → n ≤ length text → list_all is_ascii_digit (take n text) ≡ true → is_blank (take 1 (drop n text)) ≡ true
    → words_of text ≡ take n text ∷ words_of (drop n text)
word_in_prefix zero text h l d e = absurd (omega (arith, h))
word_in_prefix (suc n) [] h l d e = absurd (omega (arith, l))
word_in_prefix (suc zero) (b ∷ text) h l d e = rw (digit_no_space b (and_parts _ _ d).0, e) refl
word_in_prefix (suc (suc n)) (b ∷ []) h l d e = absurd (omega (arith, l))
word_in_prefix (suc (suc n)) (b ∷ a ∷ text) h l d e =
    let ih = word_in_prefix (suc n) (a ∷ text) (omega arith) (omega (arith, l)) (and_parts _ _ d).1 e in
    goes_on b (a ∷ text) (digit_no_space b (and_parts _ _ d).0) (no_blank a text (digit_no_space a (and_parts _ _ (and_parts _ _ d).1).0))
    ∙ ap (onto_first b) ih

left_at : (text : List ℕ) (from end : ℕ) → from ≤ end → drop (end - from) (drop from text) ≡ drop end text
left_at text from end h =
    let e : from + (end - from) ≡ end = omega (arith, h) in
    drop-drop (end - from) from text ∙ ap (λ n. drop n text) e

passed : (b : ℕ) (rest : List ℕ) → is_whitespace b ≡ true → words_of (b ∷ rest) ≡ words_of rest
passed b rest w = rw w refl

blank_first : (b : ℕ) (rest : List ℕ) → is_whitespace b ≡ true → is_blank (take 1 (b ∷ rest)) ≡ true
blank_first b rest w = rw w refl

-- some digits are a digit text
pub some_digits : (n : ℕ) (text : List ℕ) → 0 < n → n ≤ length text → list_all is_ascii_digit (take n text) ≡ true → is_digit_text (take n text) ≡ true
some_digits zero text h l d = absurd (omega (arith, h))
some_digits (suc n) [] h l d = absurd (omega (arith, l))
some_digits (suc n) (b ∷ text) h l d = d

-- digits between two places are a word, where a space is after them
pub spaced_word : (text : List ℕ) (from end : ℕ) → from < end → end < length text → list_all is_ascii_digit (take (end - from) (drop from text)) ≡ true
    → get_or text end 0 ≡ 32 → words_of (drop from text) ≡ take (end - from) (drop from text) ∷ words_of (drop (end + 1) text)
spaced_word text from end h l d s =
    let rest = drop from text in
    let word = take (end - from) rest in
    let left : drop (end - from) rest ≡ get_or text end 0 ∷ drop (end + 1) text = left_at text from end (omega (arith, h)) ∙ drop_more text end 0 l in
    let space : is_whitespace (get_or text end 0) ≡ true = rw s refl in
    word_in_prefix (end - from) rest (omega (arith, h)) (omega (arith, h, l, length-drop from text)) d
    (ap (λ (r : List ℕ). is_blank (take 1 r)) left ∙ blank_first (get_or text end 0) (drop (end + 1) text) space)
    ∙ ap (λ (words : List (List ℕ)). word ∷ words) (ap words_of left ∙ passed (get_or text end 0) (drop (end + 1) text) space)

-- and where nothing is after them
pub last_word : (text : List ℕ) (from end : ℕ) → from < end → end ≡ length text → list_all is_ascii_digit (take (end - from) (drop from text)) ≡ true
    → words_of (drop from text) ≡ take (end - from) (drop from text) ∷ []
last_word text from end h l d =
    let rest = drop from text in
    let word = take (end - from) rest in
    let none : drop (end - from) rest ≡ [] = left_at text from end (omega (arith, h)) ∙ ap (λ n. drop n text) l ∙ drop-length text in
    word_in_prefix (end - from) rest (omega (arith, h)) (omega (arith, h, l, length-drop from text)) d (ap (λ (r : List ℕ). is_blank (take 1 r)) none)
    ∙ ap (λ (r : List ℕ). word ∷ words_of r) none

pub digit_text_between : (text : List ℕ) (from end : ℕ) → from < end → end ≤ length text → list_all is_ascii_digit (take (end - from) (drop from text)) ≡ true
    → is_digit_text (take (end - from) (drop from text)) ≡ true
digit_text_between text from end h l d = some_digits (end - from) (drop from text) (omega (arith, h)) (omega (arith, h, l, length-drop from text)) d

-- a number of the type stands as it is
pub no_cap : (n : ℕ) (word : List ℕ) → n ≡ value_of word → n < 18446744073709551616 → n ≡ capped_number (value_of word)
no_cap n word e h = omega (arith, e, h)

-- ---- a number in the making

pub digit_more : (text : List ℕ) (from at number digit : ℕ) → WritesBetween text from at number → at < length text
    → is_ascii_digit (get_or text at 0) ≡ true → digit ≡ get_or text at 0 - 48 → WritesBetween text from (at + 1) (number * 10 + digit)
digit_more text from at number digit held within is value = record {
  start = omega (arith, held.start);
  within = omega (arith, within);
  digits = digits_behind text from at held.start within is held.digits;
  value = ap (λ d. number * 10 + d) value ∙ number_behind text from at number held.start within is held.value;
  small = size_behind number digit from at held.start held.small (omega (arith, value, digit_small (get_or text at 0) is));
}

-- the same where the digits so far are counted
pub digit_next : (text : List ℕ) (from count number digit : ℕ) → WritesBetween text from (from + count) number → from + count < length text
    → is_ascii_digit (get_or text (from + count) 0) ≡ true → digit ≡ get_or text (from + count) 0 - 48
    → WritesBetween text from (from + (count + 1)) (number * 10 + digit)
digit_next text from count number digit held within is value =
    let next : from + count + 1 ≡ from + (count + 1) = omega arith in
    rw (sym next) (digit_more text from (from + count) number digit held within is value)

-- fewer than 19 digits write a number that has space for one more
pub few_written : (text : List ℕ) (from at number : ℕ) → WritesBetween text from at number → at - from < 19 → number < 1000000000000000000
few_written text from at number held few = short number (at - from) held.small few

pub spaced_is : (text : List ℕ) (from at number : ℕ) → WritesBetween text from at number → at - from < 19 → from < at → at < length text
    → get_or text at 0 ≡ 32 → IsSpacedNumber text from (number, at + 1)
spaced_is text from at number held few some within space = (
  take (at - from) (drop from text),
  spaced_word text from at some within held.digits space,
  digit_text_between text from at some held.within held.digits,
  no_cap number (take (at - from) (drop from text)) held.value (omega (arith, few_written text from at number held few)),
  omega (arith, within),
)

pub last_is : (text : List ℕ) (from at number : ℕ) → WritesBetween text from at number → at - from < 19 → from < at → at ≡ length text
    → IsLastNumber text from number
last_is text from at number held few some whole = (
  take (at - from) (drop from text),
  last_word text from at some whole held.digits,
  digit_text_between text from at some held.within held.digits,
  no_cap number (take (at - from) (drop from text)) held.value (omega (arith, few_written text from at number held few)),
)

-- ---- digits in parts of four

-- in a part that has begun its bytes are there
pub begun_space : (from count n : ℕ) → from + count + 4 ≤ n + count % 4 → from + count < n
begun_space from count n h = omega (arith, h)

-- and they are still there after one of them, unless that is the last
pub space_left : (from count n : ℕ) → from + count + 4 ≤ n + count % 4 → 0 < (count + 1) % 4 → from + (count + 1) + 4 ≤ n + (count + 1) % 4
space_left from count n h more = omega (arith, h, more)
