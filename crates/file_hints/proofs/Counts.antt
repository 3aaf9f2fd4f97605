-- The count at the end of a text, found from its end.
use Rattle.std.proofs.Common.{◌≡◌, ℕ, zero, suc, ◌<◌, ◌≤◌, Bool, true, false, cond, ◌&&◌, List, [], ◌∷◌, length, drop, refl, ap, sym, ◌∙◌, arith, subst}
use Rattle.std.specs.List.{list_all}
use Rattle.std.specs.Char.{is_ascii_digit}
use Rattle.life_base.specs.Text.{without_last}
use Rattle.file_hints.specs.Damage.{number_from, with_digit}
use Rattle.file_hints.specs.Watching.{count_after}

both : (v w : Bool) → (v && w) ≡ true → (v ≡ true) × (w ≡ true)
both true w h = (refl, h)
both false w h = cc

first_off : (v w : Bool) → (v && w) ≡ false → w ≡ true → v ≡ false
first_off true w h k = cc
first_off false w h k = refl

shorter_case : (v : Bool) (b : ℕ) (text rest : List ℕ) → length rest ≤ length text → length (cond v [] (b ∷ rest)) ≤ length (b ∷ text)
shorter_case true b text rest h = omega arith
shorter_case false b text rest h = omega (arith, h)

pub shorter : (test : ℕ → Bool) (text : List ℕ) → length (without_last test text) ≤ length text
shorter test [] = omega arith
shorter test (b ∷ text) = shorter_case (list_all test (b ∷ text)) b text (without_last test text) (shorter test text)

count_of_digits : (count : ℕ) (text : List ℕ) → list_all is_ascii_digit text ≡ true → number_from count text ≡ count_after count text
count_of_digits count [] h = refl
count_of_digits count (b ∷ text) h =
    let p = both (is_ascii_digit b) (list_all is_ascii_digit text) h in
    ap (λ v. number_from (cond v (with_digit count b) count) text) p.0 ∙ count_of_digits (with_digit count b) text p.1
    ∙ sym (ap (λ v. count_after (cond v (with_digit count b) 0) text) p.0)

none_case : (v : Bool) (b : ℕ) (text rest : List ℕ) → list_all is_ascii_digit (b ∷ text) ≡ v → length (cond v [] (b ∷ rest)) ≡ 0
    → list_all is_ascii_digit (b ∷ text) ≡ true
none_case true b text rest h k = h
none_case false b text rest h k = absurd (omega (arith, k))

-- nothing is left of a text of digits alone
all_when_none : (text : List ℕ) → length (without_last is_ascii_digit text) ≡ 0 → list_all is_ascii_digit text ≡ true
all_when_none [] h = refl
all_when_none (b ∷ text) h = none_case (list_all is_ascii_digit (b ∷ text)) b text (without_last is_ascii_digit text) refl h

-- the text has digits alone
pub count_whole : (count : ℕ) (text : List ℕ) → length (without_last is_ascii_digit text) ≡ 0 → number_from count text ≡ count_after count text
count_whole count text h = count_of_digits count text (all_when_none text h)

abbrev next : ℕ → ℕ → ℕ
next count b = cond (is_ascii_digit b) (with_digit count b) 0

rest_case : (v : Bool) (count b : ℕ) (text : List ℕ) (n : ℕ) → list_all is_ascii_digit (b ∷ text) ≡ v
    → ((count : ℕ) → 0 < length (without_last is_ascii_digit text)
    → number_from 0 (drop (length (without_last is_ascii_digit text)) text) ≡ count_after count text)
    → n ≡ length (cond v [] (b ∷ without_last is_ascii_digit text)) → 0 < n → number_from 0 (drop n (b ∷ text)) ≡ count_after (next count b) text
rest_case true count b text n h ih e l = absurd (omega (arith, e, l))
rest_case false count b text n h ih e l =
    subst (λ (k : ℕ). number_from 0 (drop k (b ∷ text)) ≡ count_after (next count b) text) (sym e)
    (tail_case (length (without_last is_ascii_digit text)) refl)
  where
    tail_case : (m : ℕ) → length (without_last is_ascii_digit text) ≡ m → number_from 0 (drop m text) ≡ count_after (next count b) text
    tail_case zero is =
        let all = all_when_none text is in
        let no_digit = first_off (is_ascii_digit b) (list_all is_ascii_digit text) h all in
        count_of_digits 0 text all ∙ sym (ap (λ v. count_after (cond v (with_digit count b) 0) text) no_digit)
    tail_case (suc m) is =
        subst (λ (k : ℕ). number_from 0 (drop k text) ≡ count_after (next count b) text) is (ih (next count b) (omega (arith, is)))

rest_of : (count : ℕ) (text : List ℕ) → 0 < length (without_last is_ascii_digit text)
    → number_from 0 (drop (length (without_last is_ascii_digit text)) text) ≡ count_after count text
rest_of count [] l = absurd (omega (arith, l))
rest_of count (b ∷ text) l =
    rest_case (list_all is_ascii_digit (b ∷ text)) count b text (length (without_last is_ascii_digit (b ∷ text))) refl (λ count. rest_of count text) refl l

-- the text has something else, and the digits after it
pub count_rest : (count : ℕ) (text : List ℕ) (n : ℕ) → n ≡ length (without_last is_ascii_digit text) → 0 < n
    → number_from 0 (drop n text) ≡ count_after count text
count_rest count text n e l =
    subst (λ (k : ℕ). number_from 0 (drop k text) ≡ count_after count text) (sym e) (rest_of count text (omega (arith, e, l)))
