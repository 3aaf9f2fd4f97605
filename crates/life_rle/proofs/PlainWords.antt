-- A text has the words that stand in it between whitespace.
use Rattle.std.proofs.Common.{◌≡◌, ℕ, Bool, true, false, not, ◌&&◌, List, [], ◌∷◌, ◌++◌, take, refl, sym, ap, ◌∙◌}
use Rattle.std.specs.List.{list_all}
use Rattle.std.proofs.lemmas.Bool.{and_parts, not-true}
use Rattle.life_base.specs.Text.{is_empty, is_whitespace, is_blank, words_of, onto_first}
use Rattle.life_rle.specs.PlainPosition.{IsWord, AreWords}
use Rattle.life_rle.proofs.ReadPosition.{words_of-plain, EndsWord}
use Rattle.life_base.proofs.Texts.{step_to, blank_words, blank_no_words, take_blank}

take-EndsWord : (text : List ℕ) → is_blank (take 1 text) ≡ true → EndsWord text
take-EndsWord [] h = tt
take-EndsWord (b ∷ text) h = (and_parts (is_whitespace b) true h).0

-- some whitespace at the beginning
space-take : (space text : List ℕ) → is_empty space ≡ false → is_blank space ≡ true → is_blank (take 1 (space ++ text)) ≡ true
space-take [] text n h = cc
space-take (b ∷ space) text n h = ap (λ v. v && true) (and_parts (is_whitespace b) (is_blank space) h).0

first-word : (word more : List ℕ) → IsWord word → is_blank (take 1 more) ≡ true → words_of (word ++ more) ≡ word ∷ words_of more
first-word [] more w h = let no : true ≡ false = w.0 in cc
first-word (b ∷ word) more w h =
    let parts = and_parts (not (is_whitespace b)) (list_all (λ b. not (is_whitespace b)) word) w.1 in
    words_of-plain b word more (not-true (is_whitespace b) parts.0) parts.1 (take-EndsWord more h)

-- words between whitespace are the words of the text
pub AreWords-words_of : (words : List (List ℕ)) (text : List ℕ) → AreWords text words → (is_blank (take 1 text) ≡ true) × (words_of text ≡ words)
AreWords-words_of [] text h = (take_blank text h, blank_no_words text h)
AreWords-words_of (word ∷ words) text h =
    let more = AreWords-words_of words h.1 h.6 in (
      ap (λ (t : List ℕ). is_blank (take 1 t)) h.5 ∙ space-take h.0 (word ++ h.1) h.2 h.3,
      ap words_of h.5 ∙ blank_words h.0 (word ++ h.1) h.3 ∙ first-word word h.1 h.4 more.0 ∙ ap (λ (ws : List (List ℕ)). word ∷ ws) more.1,
    )

-- the same with whitespace or the end after each word
abbrev Separated : List ℕ → List (List ℕ) → Type 0
Separated text [] = is_blank text ≡ true
Separated text (word ∷ words) =
    (space more : List ℕ) × (is_blank space ≡ true) × IsWord word × (text ≡ space ++ (word ++ more)) × (is_blank (take 1 more) ≡ true) × Separated more words

one_blank : (b : ℕ) (words : List (List ℕ)) (text : List ℕ) → is_whitespace b ≡ true → Separated text words → Separated (b ∷ text) words
one_blank b [] text h s = ap (λ v. v && is_blank text) h ∙ s
one_blank b (word ∷ words) text h s = (b ∷ s.0, s.1, ap (λ v. v && is_blank s.0) h ∙ s.2, s.3, ap (λ (u : List ℕ). b ∷ u) s.4, s.5, s.6)

pub no : {X : Type 0} → true ≡ false → X
no e = cc

solid : (b : ℕ) → is_whitespace b ≡ false → not (is_whitespace b) ≡ true
solid b h = ap not h

one_byte : (b : ℕ) (words : List (List ℕ)) (text : List ℕ) → is_whitespace b ≡ false → is_blank (take 1 text) ≡ false → Separated text words
    → Separated (b ∷ text) (onto_first b words)
one_byte b [] text w h s = no (sym (take_blank text s) ∙ h)
one_byte b (word ∷ words) text w h s = by s.0 s.2 s.4
  where
    by : (space : List ℕ) → is_blank space ≡ true → text ≡ space ++ (word ++ s.1) → Separated (b ∷ text) ((b ∷ word) ∷ words)
    by [] k e = ([], s.1, refl, (refl, ap (λ v. v && list_all (λ b. not (is_whitespace b)) word) (solid b w) ∙ s.3.1), ap (λ (u : List ℕ). b ∷ u) e, s.5, s.6)
    by (c ∷ space) k e = no (sym (space-take (c ∷ space) (word ++ s.1) refl k) ∙ sym (ap (λ (u : List ℕ). is_blank (take 1 u)) e) ∙ h)

step : (b : ℕ) (text : List ℕ) (space last : Bool) → is_whitespace b ≡ space → is_blank (take 1 text) ≡ last → Separated text (words_of text)
    → Separated (b ∷ text) (step_to b text space last)
step b text true last h k s = one_blank b (words_of text) text h s
step b text false true h k s = ([], text, refl, (refl, ap (λ v. v && true) (solid b h)), refl, k, s)
step b text false false h k s = one_byte b (words_of text) text h k s

separated : (text : List ℕ) → Separated text (words_of text)
separated [] = refl
separated (b ∷ text) = step b text (is_whitespace b) (is_blank (take 1 text)) refl refl (separated text)

no_indent : (word more : List ℕ) → IsWord word → is_blank (take 1 (word ++ more)) ≡ true → ⊥
no_indent [] more w h = no w.0
no_indent (b ∷ word) more w h =
    let parts = and_parts (not (is_whitespace b)) (list_all (λ b. not (is_whitespace b)) word) w.1 in
    no (sym (and_parts (is_whitespace b) true h).0 ∙ not-true (is_whitespace b) parts.0)

Separated-AreWords : (words : List (List ℕ)) (text : List ℕ) → is_blank (take 1 text) ≡ true → Separated text words → AreWords text words
Separated-AreWords [] text h s = s
Separated-AreWords (word ∷ words) text h s = by (Separated-AreWords words s.1 s.5 s.6) s.0 s.2 s.4
  where
    by : AreWords s.1 words → (space : List ℕ) → is_blank space ≡ true → text ≡ space ++ (word ++ s.1) → AreWords text (word ∷ words)
    by more [] k e = absurd (no_indent word s.1 s.3 (sym (ap (λ (u : List ℕ). is_blank (take 1 u)) e) ∙ h))
    by more (b ∷ space) k e = (b ∷ space, s.1, refl, k, s.3, e, more)

-- and the words of a text stand in it between whitespace
pub words_of-AreWords : (text : List ℕ) → is_blank (take 1 text) ≡ true → AreWords text (words_of text)
words_of-AreWords text h = Separated-AreWords (words_of text) text h (separated text)
