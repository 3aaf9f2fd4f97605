-- Reading a list of words one by one: what is read and what is left are the whole.
use Rattle.std.proofs.Common.{◌≡◌, ℕ, ◌+◌, ◌<◌, List, [], ◌∷◌, ◌++◌, length, map, drop, true, false, not, refl, ap, sym, ◌∙◌, append_assoc, get_or, add-one, Option, Some, None, option_map, filter, append-nil}
use Rattle.std.specs.List.{fold}
use Rattle.std.proofs.Math.Seq.{drop-cons}
use Rattle.life_base.specs.Text.{is_whitespace}
use Rattle.life_table.specs.Reading.{all_some, union}

abbrev pub joined : {X : Type 0} → List X → Option (List X) → Option (List X)
joined done left = option_map (λ xs. done ++ xs) left

none_done : {X : Type 0} (left : Option (List X)) → left ≡ joined [] left
none_done None = refl
none_done (Some xs) = refl

more_done : {X : Type 0} (done : List X) (x : X) (left : Option (List X)) → joined done (option_map (λ xs. x ∷ xs) left) ≡ joined (done ++ x ∷ []) left
more_done done x None = refl
more_done done x (Some xs) = ap Some (sym (append_assoc done (x ∷ []) xs))

pub at_start : {X : Type 0} (whole : Option (List X)) (done : List X) → done ≡ [] → whole ≡ joined done whole
at_start whole done e = none_done whole ∙ ap (λ d. joined d whole) (sym e)

module _ {X : Type 0} (f : List ℕ → Option X) where
  -- the word is read
  pub word_read : (whole : Option (List X)) (done : List X) (word : List ℕ) (words : List (List ℕ)) (x : X)
      → whole ≡ joined done (all_some (map f (word ∷ words))) → f word ≡ Some x → whole ≡ joined (done ++ x ∷ []) (all_some (map f words))
  word_read whole done word words x w e =
      let a : all_some (map f (word ∷ words)) ≡ option_map (λ xs. x ∷ xs) (all_some (map f words)) = ap (λ (o : Option X). all_some (o ∷ map f words)) e in
      w ∙ ap (joined done) a ∙ more_done done x (all_some (map f words))

  -- the word can't be read
  pub word_unread : (whole : Option (List X)) (done : List X) (word : List ℕ) (words : List (List ℕ))
      → whole ≡ joined done (all_some (map f (word ∷ words))) → f word ≡ None → None ≡ whole
  word_unread whole done word words w e = sym (w ∙ ap (λ (o : Option X). joined done (all_some (o ∷ map f words))) e)

  -- no word is left
  pub all_read : (whole : Option (List X)) (done : List X) → whole ≡ joined done (all_some (map f [])) → Some done ≡ whole
  all_read whole done w = sym (w ∙ ap Some (append-nil done))

-- the same of sets

abbrev pub united : List ℕ → Option (List (List ℕ)) → Option (List ℕ)
united done left = option_map (λ sets. fold union done sets) left

-- a text byte by byte

abbrev pub solid : List ℕ → List (List ℕ)
solid text = map (λ b. b ∷ []) (filter (λ b. not (is_whitespace b)) text)

pub solid_next : (text : List ℕ) (i : ℕ) → i < length text → is_whitespace (get_or text i 0) ≡ false
    → solid (drop i text) ≡ (get_or text i 0 ∷ []) ∷ solid (drop (i + 1) text)
solid_next text i h e = rw (drop-cons text i 0 h, add-one i, e) refl

pub solid_skips : (text : List ℕ) (i : ℕ) → i < length text → is_whitespace (get_or text i 0) ≡ true → solid (drop i text) ≡ solid (drop (i + 1) text)
solid_skips text i h e = rw (drop-cons text i 0 h, add-one i, e) refl
