-- One more entry of a table of margins.
use Rattle.std.proofs.Common.{◌≡◌, ◌⊎◌, inl, inr, ℕ, ◌+◌, ◌<◌, ◌≤◌, List, [], ◌∷◌, ◌++◌, length, Some, slice_get, sym, ◌∙◌, ap, subst, arith, length-append}
use Rattle.std.proofs.lemmas.List.{get_or_append_left}
use Rattle.std.proofs.lemmas.Option.{slice_get-get_or, slice_get_within, same_Some}
use Rattle.std.proofs.Math.Seq.{get_or-append_seam}
use Rattle.std.proofs.lemmas.Bool.{cases_lt}
use Rattle.life_base.specs.Tree.{Tree}
use Rattle.life_quad.specs.declared.id.Id.{Id}
use Rattle.life_slide.specs.declared.margins.Margins.{Margins}
use Rattle.life_slide.specs.declared.margins.MarginTable.{MarginTable}
use Rattle.life_slide.specs.Margins.{AreMargins, AreMarginsOf}

pub get-prefix : {X : Type 0} (xs : List X) (x : X) (i : ℕ) → i < length xs → slice_get (xs ++ x ∷ []) i ≡ slice_get xs i
get-prefix xs x i h =
    slice_get-get_or (xs ++ x ∷ []) i x (omega (arith, length-append xs (x ∷ [])))
    ∙ ap Some (get_or_append_left xs (x ∷ []) x i h)
    ∙ sym (slice_get-get_or xs i x h)

pub get-end : {X : Type 0} (xs : List X) (x y : X) (i : ℕ) → i ≡ length xs → slice_get (xs ++ x ∷ []) i ≡ Some y → x ≡ y
get-end xs x y i e h =
    same_Some x y (sym (slice_get-get_or (xs ++ x ∷ []) (length xs) x (omega (arith, length-append xs (x ∷ [])))
    ∙ ap Some (get_or-append_seam xs x [] x)) ∙ ap (slice_get (xs ++ x ∷ [])) (sym e) ∙ h)

module _ (content : Id → Tree) (old new : MarginTable) (h : AreMargins content old) where
  -- an Id and its margins
  pub both-more : (id : Id) (m : Margins) → new.numbers.ids ≡ old.numbers.ids ++ id ∷ [] → new.margins.items ≡ old.margins.items ++ m ∷ []
      → length old.margins.items + 1 ≡ length new.numbers.ids → AreMarginsOf (content id) m → AreMargins content new
  both-more id m e f number here =
      record {
        few =
            let b = ap length f in
            let l = length-append old.margins.items (m ∷ []) in
            omega (arith, b, l, number);
        right = λ i q n a b.
            each i q n (sym (ap (λ ids. slice_get ids i) e) ∙ a) (sym (ap (λ ms. slice_get ms i) f) ∙ b)
            (cases_lt i (length old.margins.items));
      }
    where
      count : length old.numbers.ids ≡ length old.margins.items
      count = let a = ap length e in let l = length-append old.numbers.ids (id ∷ []) in omega (arith, a, l, number)

      each : (i : ℕ) (q : Id) (n : Margins) → slice_get (old.numbers.ids ++ id ∷ []) i ≡ Some q → slice_get (old.margins.items ++ m ∷ []) i ≡ Some n
          → (i < length old.margins.items) ⊎ (length old.margins.items ≤ i) → AreMarginsOf (content q) n
      each i q n a b (inl l) =
          h.right i q n (sym (get-prefix old.numbers.ids id i (omega (arith, l, count))) ∙ a) (sym (get-prefix old.margins.items m i l) ∙ b)
      each i q n a b (inr l) =
          let within : i < length (old.margins.items ++ m ∷ []) = slice_get_within _ i n b in
          let last : i ≡ length old.margins.items = let s = length-append old.margins.items (m ∷ []) in omega (arith, l, within, s) in
          subst (λ p. AreMarginsOf (content p) n) (get-end old.numbers.ids id q i (last ∙ sym count) a)
          (subst (AreMarginsOf (content id)) (get-end old.margins.items m n i last b) here)
